use Rattle.crystal.specs.Views.{metric_of}
use Rattle.cell_print.proofs.TextLemmas.{metric_from_pieces}
use Rattle.cell_print.proofs.cell_file.push_metric.Goals as goal

pub returns : goal.returns
returns c =
    metric_from_pieces (metric_of c.args.metric.now) c.args.scale c.args.out.now _ _ _ c.in_ok-append.ensures.value c.in_ok-push_products.ensures c.in_ok-push.ensures.value
