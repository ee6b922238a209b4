use Rattle.std.proofs.Common.{◌≡◌, ℤ, pos, ◌≤ℤ◌, ◌<ℤ◌, List, [], ◌∷◌, ◌++◌, take, map, subst, sym, ap, ◌∙◌, rules}
use Rattle.std.proofs.lemmas.List.{map_push}
use Rattle.lists.proofs.Walks.{take_at}
use Rattle.lists.proofs.Members.{member_at}
use Rattle.crystal_compare.specs.Lists.{map_of}
use Rattle.crystal_compare.specs.Maps.{AffineMap}
use Rattle.crystal_compare.specs.Steps.{operation_of}
use Rattle.crystal_compare.specs.Search.{steps, shifted}
use Rattle.crystal_compare.proofs.list.all_with_fractions.Goals as goal

pub with_fractions-requires-clause-x : goal.with_fractions-requires-clause-x
with_fractions-requires-clause-x c =
    let o = operation_of c.at.result.now in
    subst (λ (n : ℤ). (pos 0 ≤ℤ o.translation.x) × (o.translation.x <ℤ n)) (sym c.step_count-n.ensures.value) (c.requires o (member_at c.args.found.now c.loop-i.i o c.at.ensures)).x

pub with_fractions-requires-clause-y : goal.with_fractions-requires-clause-y
with_fractions-requires-clause-y c =
    let o = operation_of c.at.result.now in
    subst (λ (n : ℤ). (pos 0 ≤ℤ o.translation.y) × (o.translation.y <ℤ n)) (sym c.step_count-n.ensures.value) (c.requires o (member_at c.args.found.now c.loop-i.i o c.at.ensures)).y

pub with_fractions-requires-clause-z : goal.with_fractions-requires-clause-z
with_fractions-requires-clause-z c =
    let o = operation_of c.at.result.now in
    subst (λ (n : ℤ). (pos 0 ≤ℤ o.translation.z) × (o.translation.z <ℤ n)) (sym c.step_count-n.ensures.value) (c.requires o (member_at c.args.found.now c.loop-i.i o c.at.ensures)).z

pub loop-i-preserved : goal.loop-i-preserved
loop-i-preserved c =
    let n = steps c.args.one.now c.args.other.now in
    let o = operation_of c.at.result.now in
    let os = c.args.found.now in
    let i = c.loop-i.i in
    let pushed : c.push.new.self.items ≡ c.loop-i.maps.items ++ c.with_fractions.result ∷ [] = search rules in
    let last : map_of c.with_fractions.result ≡ shifted n o = c.with_fractions.ensures n c.step_count-n.ensures.value in
    ap (map map_of) pushed ∙ map_push map_of c.loop-i.maps.items c.with_fractions.result ∙ ap (λ (l : List AffineMap). l ++ map_of c.with_fractions.result ∷ []) c.loop-i.invariant
    ∙ ap (λ (a : AffineMap). map (shifted n) (take i os) ++ a ∷ []) last ∙ sym (map_push (shifted n) (take i os) o) ∙ ap (map (shifted n)) (take_at os i o c.at.ensures)
