-- The report of all maps between two crystals.
use Rattle.std.proofs.Common.{◌≡◌, refl, sym, subst, ℕ, Bool, true, false, List, [], ◌∷◌, length, inl}
use Rattle.std.specs.Prelude.{◌↔◌}
use Rattle.crystal_spec.specs.Crystals.{Structure}
use Rattle.crystal_spec.specs.Matrices.{Matrix}
use Rattle.basis_spec.specs.Bases.{cell_in_basis}
use Rattle.prim_cell.specs.Primitives.{PrimitiveCell}
use Rattle.crystal_compare.specs.Maps.{AffineMap}
use Rattle.crystal_compare.specs.Lists.{ListsMaps}
use Rattle.compare_text.specs.ComparisonText.{comparison_text}
use Rattle.compare_text.specs.Comparisons.{AreOneCrystal}
use Rattle.answers.specs.CompareReports.{IsMapsReport}
use Rattle.answers.specs.Findings.{IsReducedPrimitive}

-- a list that is not empty has a member
some_map : (c c' : Structure) (q q' : Matrix) (maps : List AffineMap) → ListsMaps (cell_in_basis c q) (cell_in_basis c' q') maps → (length maps ≡ 0 → ⊥) → AreOneCrystal c q c' q'
some_map c c' q q' [] all some = absurd (some refl)
some_map c c' q q' (a ∷ maps) all some = record { map = a; takes = (all.exact a).0 (inl refl) }

-- an empty list has none
no_map : (c c' : Structure) (q q' : Matrix) (maps : List AffineMap) → ListsMaps (cell_in_basis c q) (cell_in_basis c' q') maps → length maps ≡ 0 → AreOneCrystal c q c' q' → ⊥
no_map c c' q q' [] all none one = (all.exact one.map).1 one.takes
no_map c c' q q' (a ∷ maps) all none one = absurd cc

-- whether one map is listed
pub told : (c c' : Structure) (q q' : Matrix) (maps : List AffineMap) (same : Bool) → ListsMaps (cell_in_basis c q) (cell_in_basis c' q') maps → ((same ≡ true) ↔ (length maps ≡ 0 → ⊥)) → (same ≡ true) ↔ AreOneCrystal c q c' q'
told c c' q q' maps same all h = ((λ t. some_map c c' q q' maps all (h.0 t)), (λ one. h.1 (λ none. no_map c c' q q' maps all none one)))

pub maps_report : (c c' : Structure) (p p' : PrimitiveCell) (maps : List AffineMap) (same : Bool) (bytes : List ℕ) → IsReducedPrimitive c p → IsReducedPrimitive c' p' → ListsMaps p.cell p'.cell maps → bytes ≡ comparison_text p.back p'.back maps →
    ((same ≡ true) ↔ (length maps ≡ 0 → ⊥)) → IsMapsReport c c' p.back p'.back same bytes
maps_report c c' p p' maps same bytes made other all lines some =
    let here : ListsMaps (cell_in_basis c p.back) (cell_in_basis c' p'.back) maps =
    subst (λ (s : Structure). ListsMaps (cell_in_basis c p.back) s maps) other.cell (subst (λ (s : Structure). ListsMaps s p'.cell maps) made.cell all) in
    record {
      primitive = made.primitive;
      niggli = made.niggli;
      other_primitive = other.primitive;
      other_niggli = other.niggli;
      comparison = record { maps = maps; all = here; is = lines };
      one_crystal = told c c' p.back p'.back maps same here some;
    }

-- no map is listed
pub different_of : (c c' : Structure) (p p' : PrimitiveCell) (maps : List AffineMap) (q q' : Matrix) (bytes : List ℕ) → IsReducedPrimitive c p → IsReducedPrimitive c' p' → ListsMaps p.cell p'.cell maps → bytes ≡ comparison_text p.back p'.back maps →
    q ≡ p.back → q' ≡ p'.back → length maps ≡ 0 → IsMapsReport c c' q q' false bytes
different_of c c' p p' maps q q' bytes made other all lines first second none =
    subst (λ (r : Matrix). IsMapsReport c c' r q' false bytes) (sym first) (subst (λ (r : Matrix). IsMapsReport c c' p.back r false bytes) (sym second)
    (maps_report c c' p p' maps false bytes made other all lines ((λ e. absurd cc), (λ some. absurd (some none)))))

-- a map is listed
pub one_crystal_of : (c c' : Structure) (p p' : PrimitiveCell) (maps : List AffineMap) (q q' : Matrix) (bytes : List ℕ) → IsReducedPrimitive c p → IsReducedPrimitive c' p' → ListsMaps p.cell p'.cell maps → bytes ≡ comparison_text p.back p'.back maps →
    q ≡ p.back → q' ≡ p'.back → (length maps ≡ 0 → ⊥) → IsMapsReport c c' q q' true bytes
one_crystal_of c c' p p' maps q q' bytes made other all lines first second some =
    subst (λ (r : Matrix). IsMapsReport c c' r q' true bytes) (sym first) (subst (λ (r : Matrix). IsMapsReport c c' p.back r true bytes) (sym second)
    (maps_report c c' p p' maps true bytes made other all lines ((λ e. some), (λ h. refl))))
