-- What an operation of the primitive cell gives in the cell.
--
-- adj(Q) undoes Q but for the index, so V Q = Q W and Q w0 = v say what index · W and index · w0 are. The translation parts
-- w with Q w = v modulo n are then w0 + t modulo n, t a pure translation.
use Rattle.std.proofs.Common.{◌≡◌, ℕ, ℤ, pos, negsuc, ◌<ℤ◌, List, refl, sym, ap, subst, ◌∙◌}
use Rattle.std.specs.Prelude.{◌↔◌}
use Rattle.lists.specs.Increasing.{IsMember}
use Rattle.crystal_spec.specs.Matrices.{Triple, Matrix, product, image, determinant, adjugate, multiple, sum_of, identity}
use Rattle.basis_spec.specs.Metrics.{matrix_multiple}
use Rattle.positions.specs.Positions.{modulo}
use Rattle.crystal_spec.specs.Operations.{IsWithinCell, Operation}
use Rattle.crystal_spec.specs.Cells.{DiffersByCells}
use Rattle.basis_spec.specs.Bases.{IsBack}
use Rattle.basis_spec.specs.Translations.{pure_translation}
use Rattle.basis_spec.specs.Carrying.{IsCarried}
use Rattle.basis_spec.specs.StepBases.{InLattice}
use Rattle.basis_spec.proofs.MatrixLaws.{image-product, image-sum_of, image-multiple, image-matrix_multiple, image-identity, image-image_adjugate, sum_comm, sum_assoc, subtract_add, add_difference, same_images}
use Rattle.basis_spec.proofs.Cancelling.{multiple_cancel, sum_cancel}
use Rattle.positions.proofs.Residues.{modulo_away, modulo_within}
use Rattle.basis_spec.proofs.OperationBases.{at_least_one}
use Rattle.basis_spec.proofs.PrimitiveCell.{differs_sym, differs_trans, differs_at, differs_applied}
use Rattle.basis_spec.proofs.PureTranslations.{translations_same}
use Rattle.crystal_spec.proofs.Isometries.{image-adjugate}

-- moved by the same triple, positions that differ by whole cells do so
pub differs_moved : {n : ℕ} {p q : Triple} (u : Triple) → DiffersByCells n p q → DiffersByCells n (sum_of u p) (sum_of u q)
differs_moved {n} {p} {q} u d = record { cells = d.cells; is = ap (sum_of u) d.is ∙ sym (sum_assoc u q (multiple (pos n) d.cells)) }

-- a translation of the cell that some pure translation t makes of w0
pub record IsMade (n : ℕ) (translations : List Operation) (start w : Triple) : Type 0 where
  pub pure_part : Triple
  pub of_list : IsMember (pure_translation pure_part) translations
  pub within : IsWithinCell n pure_part
  pub is : w ≡ modulo n (sum_of start pure_part)

module _ (n : ℕ) (translations : List Operation) (r : Matrix) (some : pos 0 <ℤ pos n) (k : IsBack n (InLattice n translations) r) where
  r_above : pos 0 <ℤ determinant r
  r_above = at_least_one (determinant r) k.determinant_positive

  lattice_of : (t : Triple) → IsWithinCell n t → IsMember (pure_translation t) translations → InLattice n translations t
  unfolding InLattice
  lattice_of t h m = subst (λ (u : Triple). IsMember (pure_translation u) translations) (translations_same n t (modulo n t) h (modulo_within n t some) (modulo_away n t some)) m

  list_of : (t : Triple) → InLattice n translations t → IsMember (pure_translation (modulo n t)) translations
  unfolding InLattice
  list_of t h = h

  -- of a member with the translation part v = Q w0, exactly the w0 + t modulo n, t a pure translation, have Q w = v modulo n
  pub made : (v start w : Triple) → IsWithinCell n v → image r start ≡ v → IsWithinCell n w → (modulo n (image r w) ≡ v) ↔ IsMade n translations start w
  made v start w hv e hw = (down, up)
    where
      down : modulo n (image r w) ≡ v → IsMade n translations start w
      down f =
          let d : DiffersByCells n (image r w) v = differs_at refl f (modulo_away n (image r w) some) in
          let u = sum_of w (multiple (negsuc 0) start) in
          let whole : image r u ≡ multiple (pos n) d.cells = sum_cancel (image r u) (multiple (pos n) d.cells) v
          (ap (sum_of (image r u)) (sym e) ∙ sym (image-sum_of r u start) ∙ ap (image r) (subtract_add w start) ∙ d.is ∙ sum_comm v (multiple (pos n) d.cells)) in
          record {
            pure_part = modulo n u;
            of_list = list_of u ((k.exact u).1 (record { cells = d.cells; is = whole }));
            within = modulo_within n u some;
            is = translations_same n w (modulo n (sum_of start (modulo n u))) hw (modulo_within n (sum_of start (modulo n u)) some)
                (differs_trans (differs_at (add_difference w start) refl (differs_moved start (modulo_away n u some))) (modulo_away n (sum_of start (modulo n u)) some));
          }

      up : IsMade n translations start w → modulo n (image r w) ≡ v
      up m =
          let d = (k.exact m.pure_part).0 (lattice_of m.pure_part m.within m.of_list) in
          let near : DiffersByCells n w (sum_of start m.pure_part) = differs_at (sym m.is) refl (differs_sym (modulo_away n (sum_of start m.pure_part) some)) in
          let there : DiffersByCells n (image r w) (image r (sum_of start m.pure_part)) = differs_applied r near in
          let from : DiffersByCells n (image r (sum_of start m.pure_part)) v = record { cells = d.cells; is = image-sum_of r start m.pure_part ∙ (λ i. sum_of (e i) (d.is i)) } in
          translations_same n (modulo n (image r w)) v (modulo_within n (image r w) some) hv (differs_trans (differs_sym (modulo_away n (image r w) some)) (differs_trans there from))

  -- V Q = Q W exactly where index · W = fore · (V · Q)
  pub turned_by_fore : (v w : Matrix) → (product v r ≡ product r w) ↔ (product (adjugate r) (product v r) ≡ matrix_multiple (determinant r) w)
  turned_by_fore v w = (
    (λ e. same_images (product (adjugate r) (product v r)) (matrix_multiple (determinant r) w) (λ t. image-product (adjugate r) (product v r) t ∙ ap (λ m. image (adjugate r) (image m t)) e ∙ ap (image (adjugate r)) (image-product r w t) ∙ image-adjugate r (image w t) ∙ sym (image-matrix_multiple (determinant r) w t))),
    (λ e. same_images (product v r) (product r w) (λ t. multiple_cancel (determinant r) (image (product v r) t) (image (product r w) t) r_above
        (sym (image-image_adjugate r (image (product v r) t)) ∙ ap (image r) (sym (image-product (adjugate r) (product v r) t) ∙ ap (λ m. image m t) e ∙ image-matrix_multiple (determinant r) w t) ∙ image-multiple r (determinant r) (image w t) ∙ ap (multiple (determinant r)) (sym (image-product r w t))))),
  )

  -- Q w0 = v exactly where index · w0 = fore · v
  pub started_by_fore : (v start : Triple) → (image r start ≡ v) ↔ (image (adjugate r) v ≡ multiple (determinant r) start)
  started_by_fore v start = (
    (λ e. ap (image (adjugate r)) (sym e) ∙ image-adjugate r start),
    (λ e. multiple_cancel (determinant r) (image r start) v r_above (sym (image-multiple r (determinant r) start) ∙ ap (image r) (sym e) ∙ image-image_adjugate r v)),
  )

  -- where Q takes a translation part of the cell to v modulo n, v is the image of some triple
  pub starts : (v w : Triple) → modulo n (image r w) ≡ v → (start : Triple) × (image r start ≡ v)
  starts v w f =
      let d : DiffersByCells n (image r w) v = differs_at refl f (modulo_away n (image r w) some) in
      let step : image r (image k.steps d.cells) ≡ multiple (pos n) d.cells = sym (image-product r k.steps d.cells) ∙ ap (λ a. image a d.cells) k.whole ∙ image-matrix_multiple (pos n) identity d.cells ∙ ap (multiple (pos n)) (image-identity d.cells) in (
        sum_of w (multiple (negsuc 0) (image k.steps d.cells)),
        sum_cancel (image r (sum_of w (multiple (negsuc 0) (image k.steps d.cells)))) v (multiple (pos n) d.cells)
            (ap (sum_of (image r (sum_of w (multiple (negsuc 0) (image k.steps d.cells))))) (sym step) ∙ sym (image-sum_of r (sum_of w (multiple (negsuc 0) (image k.steps d.cells))) (image k.steps d.cells)) ∙ ap (image r) (subtract_add w (image k.steps d.cells)) ∙ d.is),
      )

-- What is computed of a member (V, v, s) of the list of the primitive cell: W = fore · V Q / index where that is of
-- integers, and w0 = fore · v / index where that is; and a translation part that a pure translation makes of w0.
pub record IsBrought (n index : ℕ) (r fore : Matrix) (translations os : List Operation) (o : Operation) : Type 0 where
  pub member : Operation
  pub of_list : IsMember member os
  pub sign : member.sign ≡ o.sign
  pub whole : product fore (product member.matrix r) ≡ matrix_multiple (pos index) o.matrix
  pub start : Triple
  pub start_is : image fore member.translation ≡ multiple (pos index) start
  pub translation : IsWithinCell n o.translation
  pub made : IsMade n translations start o.translation

module _ (n index : ℕ) (translations : List Operation) (r fore : Matrix) (some : pos 0 <ℤ pos n) (k : IsBack n (InLattice n translations) r) (index_is : pos index ≡ determinant r) (fore_is : fore ≡ adjugate r)
    (os : List Operation) (within : (o : Operation) → IsMember o os → IsWithinCell n o.translation) (o : Operation) where
  brought : IsCarried n r os o → IsBrought n index r fore translations os o
  brought h =
      let v = modulo n (image r o.translation) in
      let start = starts n translations r some k v o.translation refl in
      record {
        member = record { matrix = h.matrix; translation = v; sign = o.sign };
        of_list = h.of_list;
        sign = refl;
        whole = (λ i. product (fore_is i) (product h.matrix r)) ∙ (turned_by_fore n translations r some k h.matrix o.matrix).0 h.turned ∙ ap (λ (d : ℤ). matrix_multiple d o.matrix) (sym index_is);
        start = start.0;
        start_is = (λ i. image (fore_is i) v) ∙ (started_by_fore n translations r some k v start.0).0 start.1 ∙ ap (λ (d : ℤ). multiple d start.0) (sym index_is);
        translation = h.translation;
        made = (made n translations r some k v start.0 o.translation (modulo_within n (image r o.translation) some) start.1 h.translation).0 refl;
      }

  carried : IsBrought n index r fore translations os o → IsCarried n r os o
  carried h =
      let v = h.member.translation in
      let e : image r h.start ≡ v = (started_by_fore n translations r some k v h.start).1 ((λ i. image (sym fore_is i) v) ∙ h.start_is ∙ ap (λ (d : ℤ). multiple d h.start) index_is) in
      let t : modulo n (image r o.translation) ≡ v = (made n translations r some k v h.start o.translation (within h.member h.of_list) e h.translation).1 h.made in
      record {
        translation = h.translation;
        matrix = h.member.matrix;
        turned = (turned_by_fore n translations r some k h.member.matrix o.matrix).1 ((λ i. product (sym fore_is i) (product h.member.matrix r)) ∙ h.whole ∙ ap (λ (d : ℤ). matrix_multiple d o.matrix) index_is);
        of_list = subst (λ (p : Operation). IsMember p os) (λ i. record { matrix = h.member.matrix; translation = sym t i; sign = h.sign i }) h.of_list;
      }

  -- so what is computed is exactly what is carried
  pub carried_is_brought : IsCarried n r os o ↔ IsBrought n index r fore translations os o
  carried_is_brought = (brought, carried)
