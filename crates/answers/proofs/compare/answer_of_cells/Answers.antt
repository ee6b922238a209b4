use Rattle.std.proofs.Common.{◌≡◌, ◌∙◌, length, rules}
use Rattle.answers.proofs.CompareLemmas.{one_crystal_of, different_of}
use Rattle.answers.proofs.compare.answer_of_cells.Goals as goal

-- no map is listed
pub returns-then-count-eq0 : goal.returns-then-count-eq0
returns-then-count-eq0 c s s' first second =
    let none : length c.in_ok-maps.maps ≡ 0 = search rules in
    different_of s s' c.args.one.now c.args.other.now c.in_ok-maps.maps _ _ c.in_ok-text.text first second c.in_ok-maps.ensures.exact c.in_ok-text.ensures.value c.back.ensures c.back-then-count-eq0.ensures none

-- a map is listed
pub returns : goal.returns
returns c s s' first second =
    one_crystal_of s s' c.args.one.now c.args.other.now c.in_ok-maps.maps _ _ c.in_ok-text.text first second c.in_ok-maps.ensures.exact c.in_ok-text.ensures.value c.back-2.ensures c.back-3.ensures
    (λ none. c.if-count-eq0.false (c.count.ensures.value ∙ none))
