-- The standard cell by its units and its blocks, and that it is within the limits of a cell exactly where there is room for it.
use Rattle.std.proofs.Common.{◌≡◌, ℕ, zero, suc, ◌*◌, ◌^◌, ◌<◌, ◌≤◌, ℤ, pos, negsuc, ◌*ℤ◌, ◌<ℤ◌, ◌≤ℤ◌, List, [], ◌∷◌, ◌++◌, length, inl, inr, refl, sym, ap, subst, ◌∙◌, arith, append-nil}
use Rattle.std.specs.Prelude.{unsigned_abs, slice_get, Some}
use Rattle.std.proofs.lemmas.Int.{ints}
use Rattle.ring.proofs.IntOrder.{mul_pos}
use Rattle.lists.specs.Increasing.{IsMember}
use Rattle.crystal_spec.specs.declared.MomentKind.{MomentKind}
use Rattle.crystal_spec.specs.Matrices.{Matrix, image, determinant, adjugate}
use Rattle.crystal_spec.specs.Moments.{IsOfKind, turn_matrix}
use Rattle.crystal_spec.specs.Crystals.{Atom, Structure, IsPositive}
use Rattle.crystal_spec.specs.Cells.{IsCell}
use Rattle.crystal_spec.proofs.Moments.{turn-of_kind}
use Rattle.crystal.specs.declared.limits.TheConstants.{MOST_ATOMS}
use Rattle.crystal.specs.Views.{metric_of}
use Rattle.matrix3.specs.Bounds.{EntriesAtMost, CoordinatesAtMost}
use Rattle.crystal.specs.Cells.{IsCellAtom, AreCellAtoms, IsCellWithinLimits}
use Rattle.crystal.proofs.CellLemmas.{atom_member, is_cell}
use Rattle.positions.specs.Positions.{origin}
use Rattle.basis_spec.proofs.Positive.{pos_of_mul, positive_metric_in}
use Rattle.match_spec.specs.Points.{Point, IsPoint}
use Rattle.standard_cell.specs.declared.limits.Units.{Units}
use Rattle.standard_cell.specs.BasisPlaces.{IsLeastDenominator}
use Rattle.standard_cell.specs.StandardCells.{IsBlock, AreBlocks, IsStandard, IsWithinLimits}
use Rattle.standard_cell.specs.Rooms.{AreUnits, HasRoom}
use Rattle.standard_cell.proofs.Blocks.{block_of, of_block}
use Rattle.standard_cell.proofs.Placed.{placed}
use Rattle.standard_cell.proofs.Divisors.{least_denominator}
use Rattle.standard_cell.proofs.Counted.{block_count, standard_count}
use Rattle.standard_cell.proofs.Unique.{denominator_unique}
use Rattle.standard_cell.proofs.OriginLemmas.{itself}

natural : (z : ℤ) → pos 0 <ℤ z → pos (unsigned_abs z) ≡ z
natural (pos n) h = refl
natural (negsuc n) h = absurd h.lt

-- ---- one more block

pub blocks_more : (c : Structure) (q : Matrix) (p : Point) (n : ℕ) (atoms : List Atom) (a : Atom) (copies block : List Atom) → AreBlocks c q p n atoms copies → IsBlock c q p n a block → AreBlocks c q p n (atoms ++ a ∷ []) (copies ++ block)
blocks_more c q p n [] a copies block is one = (block, ([], (ap (λ (l : List Atom). l ++ block) is ∙ sym (append-nil block), (one, refl))))
blocks_more c q p n (b ∷ atoms) a copies block (first, (rest, (is, (here, more)))) one =
    (first, (rest ++ block, (ap (λ (l : List Atom). l ++ block) is ∙ assoc first rest block, (here, blocks_more c q p n atoms a rest block more one))))
  where
    assoc : (xs ys zs : List Atom) → (xs ++ ys) ++ zs ≡ xs ++ (ys ++ zs)
    assoc [] ys zs = refl
    assoc (x ∷ xs) ys zs = ap (λ (l : List Atom). x ∷ l) (assoc xs ys zs)

-- ---- copies that a cell can hold

same_atoms : (names n : ℕ) (kind : MomentKind) (copies : List Atom) → ((b : Atom) → IsMember b copies → IsCellAtom names n kind b) → AreCellAtoms names n kind copies
same_atoms names n kind [] h = tt
same_atoms names n kind (x ∷ copies) h = (h x (inl refl), same_atoms names n kind copies (λ b m. h b (inr m)))

module _ (c : Structure) (q : Matrix) (p : Point) (u : Units) (form : IsCellWithinLimits c) (above : pos 0 <ℤ determinant q) (is_p : IsPoint p) (units : AreUnits c q p u) where
  cell : IsCell c
  cell = is_cell c form

  some : pos 0 <ℤ pos c.n
  some = cell.some_cells

  pub n_positive : pos 0 <ℤ u.n
  n_positive = pos_of_mul u.divisor u.n units.divisor_is.positive (subst (λ (z : ℤ). pos 0 <ℤ z) units.n_is (mul_pos (determinant q) (pos c.n *ℤ p.denominator) above (mul_pos (pos c.n) p.denominator some is_p.positive)))

  m : ℕ
  m = unsigned_abs u.n

  pub m_is : pos (unsigned_abs u.n) ≡ u.n
  m_is = natural u.n n_positive

  least : IsLeastDenominator c q p (unsigned_abs u.n)
  least = least_denominator c q p above some is_p cell.first cell.of_cell u.divisor units.divisor_is (unsigned_abs u.n) (units.n_is ∙ ap (λ (z : ℤ). u.divisor *ℤ z) (sym m_is))

  -- the standard cell of these blocks
  abbrev pub cell_with : List Atom → Structure
  cell_with copies = record { names = c.names; scale = c.scale; metric = metric_of u.metric; n = unsigned_abs u.n; k = u.k; kind = c.kind; atoms = copies }

  pub standard_with : (copies : List Atom) → AreBlocks c q p (unsigned_abs u.n) c.atoms copies → IsStandard c q p (cell_with copies)
  standard_with copies h = record { names = refl; scale = refl; metric = units.metric_is; n = least; k = units.k_is; kind = refl; atoms = h }

  -- so many atoms
  as_natural : (h : ℤ) (k l : ℕ) → pos 0 <ℤ h → pos k ≡ h *ℤ pos l → k ≡ unsigned_abs h * l
  as_natural (pos n) k l above e = omega (arith, ints, e)
  as_natural (negsuc n) k l above e = absurd above.lt

  pub count_is : (s : Structure) → IsStandard c q p s → length s.atoms ≡ unsigned_abs (determinant q) * length c.atoms
  count_is s st = as_natural (determinant q) (length s.atoms) (length c.atoms) above (standard_count c s q p st above some is_p)

  -- it is within the limits where there is room
  pub limits_of_room : HasRoom c q u → (copies : List Atom) → AreBlocks c q p (unsigned_abs u.n) c.atoms copies → IsWithinLimits (cell_with copies)
  limits_of_room room copies h = record {
    atoms = subst (λ (k : ℕ). k ≤ MOST_ATOMS) (sym (count_is (cell_with copies) (standard_with copies h))) room.atoms;
    n = few (unsigned_abs u.n) (subst (λ (z : ℤ). z ≤ℤ pos (10 ^ 6)) (sym m_is) room.n);
    k = room.k;
    metric = room.metric;
    moments = λ b k. (let r = block_of c q p (unsigned_abs u.n) c.atoms copies h b k in subst (CoordinatesAtMost (2 * 10 ^ 27)) (sym r.atom.moment) (room.moments r.source r.of_cell));
  }
    where
      few : (k : ℕ) → pos k ≤ℤ pos (10 ^ 6) → k ≤ 10 ^ 6
      few k h = omega (arith, ints, h)

  -- and there is room where it is
  pub room_of_limits : (s : Structure) → IsStandard c q p s → IsWithinLimits s → HasRoom c q u
  room_of_limits s st fits =
      let n = denominator_unique c q p s.n (unsigned_abs u.n) st.n least in
      record {
        atoms = subst (λ (k : ℕ). k ≤ MOST_ATOMS) (count_is s st) fits.atoms;
        n = subst (λ (z : ℤ). z ≤ℤ pos (10 ^ 6)) (ap pos n ∙ m_is) (as_integer s.n fits.n);
        k = subst (λ (k : ℕ). k ≤ 10 ^ 6) (st.k ∙ sym units.k_is) fits.k;
        metric = subst (EntriesAtMost (10 ^ 16)) (st.metric ∙ sym units.metric_is) fits.metric;
        moments = λ a of_cell.
            (let r = placed c q p s.n st.n.positive st.n.common above some is_p a a.position of_cell (record { cells = origin; is = itself (pos c.n) a.position }) in
            let b : Atom = record { species = a.species; position = r.rest; moment = image (turn_matrix c.kind (adjugate q)) a.moment } in
            fits.moments b (of_block c q p s.n c.atoms s.atoms st.atoms a b of_cell (record { species = refl; place = r.place; moment = refl })));
      }
    where
      as_integer : (k : ℕ) → k ≤ 10 ^ 6 → pos k ≤ℤ pos (10 ^ 6)
      as_integer k h = omega (arith, ints, h)

  -- its metric tensor is positive
  pub metric_positive : IsPositive (metric_of u.metric)
  metric_positive = subst IsPositive (sym units.metric_is) (positive_metric_in q c.metric cell.symmetric cell.positive above)

  -- its atoms are such as a cell can hold
  pub atoms_fit : HasRoom c q u → (copies : List Atom) → AreBlocks c q p (unsigned_abs u.n) c.atoms copies → AreCellAtoms (length c.names) (unsigned_abs u.n) c.kind copies
  atoms_fit room copies h = same_atoms (length c.names) (unsigned_abs u.n) c.kind copies each
    where
      each : (b : Atom) → IsMember b copies → IsCellAtom (length c.names) (unsigned_abs u.n) c.kind b
      each b k =
          let r = block_of c q p (unsigned_abs u.n) c.atoms copies h b k in
          let a = atom_member (length c.names) c.n c.kind c.atoms r.source form.atoms r.of_cell in
          let i = r.atom.place.in_cell in
          record {
            named = subst (λ (s : ℕ). s < length c.names) (sym r.atom.species) a.named;
            within = record { x = (i.x_low, i.x_high); y = (i.y_low, i.y_high); z = (i.z_low, i.z_high) };
            moment = subst (CoordinatesAtMost (2 * 10 ^ 27)) (sym r.atom.moment) (room.moments r.source r.of_cell);
            of_kind = subst (IsOfKind c.kind) (sym r.atom.moment) (turn-of_kind c.kind (adjugate q) r.source.moment a.of_kind);
          }

  -- the first of them has the species of the first atom, and there is one
  no_none : (h : ℤ) → pos 0 <ℤ h → pos 0 ≡ h → ⊥
  no_none h above e = omega (arith, ints)

  pub first_species : (atoms copies : List Atom) → ((a : Atom) → IsMember a atoms → IsMember a c.atoms) → AreBlocks c q p (unsigned_abs u.n) atoms copies → 1 ≤ length atoms → ((a : Atom) → slice_get atoms 0 ≡ Some a → a.species ≡ 0) → (b : Atom) → slice_get copies 0 ≡ Some b → b.species ≡ 0
  first_species [] copies part h one none b e = absurd (omega arith)
  first_species (a ∷ atoms) copies part (block, (rest, (is, (here, more)))) one none b e = by block here (ap (λ (l : List Atom). slice_get l 0) (sym is) ∙ e)
    where
      by : (block : List Atom) → IsBlock c q p (unsigned_abs u.n) a block → slice_get (block ++ rest) 0 ≡ Some b → b.species ≡ 0
      by [] here e = absurd (no_none (determinant q) above (block_count c q p (unsigned_abs u.n) least.positive least.common above some is_p a (part a (inl refl)) [] here))
      by (x ∷ block) here e = let same : x ≡ b = cc e in subst (λ (s : Atom). s.species ≡ 0) same (((here.exact x).0 (inl refl)).species ∙ none a refl)

  pub some_atoms : (s : Structure) → IsStandard c q p s → 1 ≤ length s.atoms
  some_atoms s st = positive (unsigned_abs (determinant q)) (length c.atoms) (length s.atoms) (size (determinant q) above) form.some (count_is s st)
    where
      size : (z : ℤ) → pos 0 <ℤ z → 1 ≤ unsigned_abs z
      size z h = omega (arith, ints)

      positive : (h l k : ℕ) → 1 ≤ h → 1 ≤ l → k ≡ h * l → 1 ≤ k
      positive (suc h) (suc l) k a b e = omega (arith, e)
      positive zero l k a b e = absurd (omega arith)
      positive (suc h) zero k a b e = absurd (omega (arith, b))
