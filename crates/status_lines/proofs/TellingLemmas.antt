-- Pieces of a line, one after another.
use Rattle.std.proofs.Common.{◌≡◌, refl, sym, ap, ◌∙◌, ◌⊎◌, inl, inr, ℕ, ◌≤◌, List, [], ◌∷◌, ◌++◌, length, take, drop, append_assoc, arith, get_or, map, true, false, Bor}
use Rattle.std.proofs.lemmas.List.{take-append-drop, append-nil}
use Rattle.std.specs.Prelude.{Some, None, Option, is_ok}
use Rattle.std.specs.List.{concat}
use Rattle.std.specs.declared.result.Result.{Result}
use Rattle.std.specs.declared.result.Result.TheVariants.{Ok, Err}
use Rattle.std.specs.Io.KnownBytes.{Appends}
use Rattle.io_edge.specs.Causes.{Rose}
use Rattle.io_edge.specs.States.{SinkState}
use Rattle.io_edge.specs.Writing.{WritesAll}
use Rattle.io_edge.specs.declared.sink.OutFault.{OutFault}
use Rattle.status_lines.specs.Telling.{Tells}

appends_none : (a : Option (List ℕ)) → Appends a a []
appends_none None = tt
appends_none (Some xs) = sym (append-nil xs)

appends_both : (a b c : Option (List ℕ)) (xs ys : List ℕ) → Appends a b xs → Appends b c ys → Appends a c (xs ++ ys)
appends_both None b c xs ys p q = tt
appends_both (Some a) None c xs ys p q = absurd p
appends_both (Some a) (Some b) None xs ys p q = absurd q
appends_both (Some a) (Some b) (Some c) xs ys p q = q ∙ ap (λ zs. zs ++ ys) p ∙ append_assoc a xs ys

-- nothing to tell
pub tells_nothing : (highest : Option ℕ) (a : SinkState) → Tells highest a a []
tells_nothing highest a = record { front = []; rest = []; are = refl; written = appends_none a.held; whole = inl refl }

-- what rose from a later count on rose from an earlier one
rose_before : (highest : Option ℕ) (f g h : ℕ) → f ≤ g → Rose highest g h → Rose highest f h
rose_before None f g h later r = omega (arith, later, r)
rose_before (Some most) f g h later r = omega (arith, later, r)

-- a piece, and then the rest of the line
pub tells_more : (highest : Option ℕ) (a b c : SinkState) (piece line : List ℕ) → Appends a.held b.held piece → a.faults ≤ b.faults → Tells highest b c line → Tells highest a c (piece ++ line)
tells_more highest a b c piece line p later t = record {
  front = piece ++ t.front;
  rest = t.rest;
  are = ap (λ zs. piece ++ zs) t.are ∙ sym (append_assoc piece t.front t.rest);
  written = appends_both a.held b.held c.held piece t.front p t.written;
  whole = by t.whole;
}
  where
    by : (t.rest ≡ []) ⊎ ((c.last_failed ≡ true) × Rose highest b.faults c.faults) → (t.rest ≡ []) ⊎ ((c.last_failed ≡ true) × Rose highest a.faults c.faults)
    by (inl e) = inl e
    by (inr r) = inr (r.0, rose_before highest a.faults b.faults c.faults later r.1)

-- a piece that was cut off
pub tells_part : (highest : Option ℕ) (a b : SinkState) (piece line : List ℕ) (n : ℕ) → Appends a.held b.held (take n piece) → Rose highest a.faults b.faults → b.last_failed ≡ true → Tells highest a b (piece ++ line)
tells_part highest a b piece line n p r last = record {
  front = take n piece;
  rest = drop n piece ++ line;
  are = ap (λ zs. zs ++ line) (sym (take-append-drop n piece)) ∙ append_assoc (take n piece) (drop n piece) line;
  written = p;
  whole = inr (last, r);
}

-- the first of several pieces was cut off
pub tells_first_part : (pieces : List (Bor (List ℕ))) (d : Bor (List ℕ)) (highest : Option ℕ) (a b : SinkState) (result : Result (Unit {0}) OutFault) → 1 ≤ length pieces → is_ok result ≡ false → WritesAll highest a b (get_or pieces 0 d).now result → Tells highest a b (concat (map (λ (piece : Bor (List ℕ)). piece.now) pieces))
tells_first_part [] d highest a b result h e w = absurd (omega arith)
tells_first_part (piece ∷ rest) d highest a b (Ok u) h e w = absurd (cc e)
tells_first_part (piece ∷ rest) d highest a b (Err fault) h e w =
    tells_part highest a b piece.now (concat (map (λ (p : Bor (List ℕ)). p.now) rest)) fault.written w.1 w.2 w.3

-- three pieces, one after another
pub three_pieces : (m t e : List ℕ) → m ++ (t ++ (e ++ [])) ≡ m ++ t ++ e
three_pieces m t e = ap (λ zs. m ++ (t ++ zs)) (append-nil e) ∙ sym (append_assoc m t e)

-- the pieces of a line on a cell that is refused, one after another
pub line_pieces : (m l n c t e : List ℕ) → (m ++ l) ++ (n ++ (c ++ (t ++ (e ++ [])))) ≡ m ++ (l ++ n ++ c ++ t) ++ e
line_pieces m l n c t e =
    append_assoc m l (n ++ (c ++ (t ++ (e ++ []))))
    ∙ ap (λ zs. m ++ zs) (four_joined l n c t (e ++ []))
    ∙ three_pieces m (l ++ n ++ c ++ t) e
  where
    four_joined : (a b c d zs : List ℕ) → a ++ (b ++ (c ++ (d ++ zs))) ≡ (a ++ b ++ c ++ d) ++ zs
    four_joined a b c d zs = sym (append_assoc a b (c ++ (d ++ zs))) ∙ sym (append_assoc (a ++ b) c (d ++ zs)) ∙ sym (append_assoc (a ++ b ++ c) d zs)

-- five pieces, before a rest
pub five_joined : (a b c d e zs : List ℕ) → a ++ (b ++ (c ++ (d ++ (e ++ zs)))) ≡ (a ++ b ++ c ++ d ++ e) ++ zs
five_joined a b c d e zs =
    sym (append_assoc a b (c ++ (d ++ (e ++ zs)))) ∙ sym (append_assoc (a ++ b) c (d ++ (e ++ zs))) ∙ sym (append_assoc (a ++ b ++ c) d (e ++ zs)) ∙ sym (append_assoc (a ++ b ++ c ++ d) e zs)

-- the pieces of a line on a symbol: what stands in front, a text in three pieces, and the end
pub text_pieces : (m f d b e : List ℕ) → m ++ (f ++ (d ++ (b ++ (e ++ [])))) ≡ m ++ ((f ++ d ++ b) ++ e)
text_pieces m f d b e =
    ap (λ zs. m ++ (f ++ (d ++ (b ++ zs)))) (append-nil e)
    ∙ ap (λ zs. m ++ zs) (sym (append_assoc f d (b ++ e)) ∙ sym (append_assoc (f ++ d) b e))
