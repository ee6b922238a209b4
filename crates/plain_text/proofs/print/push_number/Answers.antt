use Rattle.std.proofs.Common.{rules, ◌≡◌, ◌++◌, OnOk, List, ℕ, subst, ap, sym, ◌∙◌, pos, to_z-of_z}
use Rattle.std.specs.Prelude.{◌<ℤ◌, ◌≤ℤ◌, unsigned_abs}
use Rattle.plain_text.specs.NumberText.{number_text, size_text}
use Rattle.plain_text.proofs.PrintedPieces.{signed_text, number_text-positive}
use Rattle.plain_text.proofs.print.push_number.Goals as goal

pub returns-in_ok-push : goal.returns-in_ok-push
returns-in_ok-push c =
    let fits = c.ranges.z in
    let size : c.unsigned_abs-size.result ≡ unsigned_abs c.args.z = simp to_z-of_z at c.unsigned_abs-size.ensures.value in
    let below : c.args.z <ℤ pos 0 = search rules in
    subst (λ (text : List ℕ). OnOk c.push_size.result (c.push_size.new.out ≡ text)) (signed_text c.args.out.now c.push.new.self c.args.z c.args.d c.unsigned_abs-size.result below size c.in_ok-push.ensures.value) c.push_size.ensures

pub returns-else-z-lt0 : goal.returns-else-z-lt0
returns-else-z-lt0 c =
    let fits = c.ranges.z in
    let size : c.unsigned_abs-size.result ≡ unsigned_abs c.args.z = simp to_z-of_z at c.unsigned_abs-size.ensures.value in
    let not_below : pos 0 ≤ℤ c.args.z = search rules in
    let same : c.args.out.now ++ size_text c.unsigned_abs-size.result c.args.d ≡ c.args.out.now ++ number_text c.args.z c.args.d = ap (λ (n : ℕ). c.args.out.now ++ size_text n c.args.d) size ∙ ap (λ (text : List ℕ). c.args.out.now ++ text) (sym (number_text-positive c.args.z c.args.d not_below)) in
    subst (λ (text : List ℕ). OnOk c.push_size-else-z-lt0.result (c.push_size-else-z-lt0.new.out ≡ text)) same c.push_size-else-z-lt0.ensures
