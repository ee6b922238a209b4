use Rattle.std.proofs.Common.{ap, ◌∙◌, List}
use Rattle.io_edge.specs.InMemory.{MemoryFile, MemoryShelf, bytes_of, left_of}
use Rattle.io_edge.proofs.Files.{left-push, place-push, replaced}
use Rattle.io_edge.proofs.mem_shelf.MemShelf.put.Goals as goal

pub invariant_of-self-2 : goal.invariant_of-self-2
invariant_of-self-2 c =
    (rw c.in_ok-push.ensures.items (place-push c.self.inside.picked c.self.inside.at c.self.inside.files.items c.in_ok-file.file c.self.invariant.0), c.self.invariant.1, c.self.invariant.2)

pub returns-clause-replaced : goal.returns-clause-replaced
returns-clause-replaced c = λ other.
    ap (λ (files : List MemoryFile). bytes_of files other) c.in_ok-push.ensures.items
    ∙ replaced c.self.inside.files.items c.args.self.now.files c.in_ok-file.file c.args.name.now c.args.bytes.now other
    (ap (λ (s : MemoryShelf). s.files) c.self.view_is) c.in_ok-file.ensures.name c.in_ok-file.ensures.bytes

pub returns-clause-left : goal.returns-clause-left
returns-clause-left c =
    ap (λ (files : List MemoryFile). left_of c.self.inside.picked c.self.inside.at files) c.in_ok-push.ensures.items
    ∙ left-push c.self.inside.picked c.self.inside.at c.self.inside.files.items c.in_ok-file.file c.self.invariant.0
    ∙ ap (λ (s : MemoryShelf). s.left) c.self.view_is
