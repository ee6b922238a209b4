-- What the search is given, and what its steps say of maps.
use Rattle.std.proofs.Common.{◌≡◌, refl, sym, ap, subst, ◌∙◌, ◌⊎◌, inl, inr, ℕ, ◌+◌, ◌*◌, ◌<◌, ◌≤◌, ℤ, pos, negsuc, ◌<ℤ◌, List, [], ◌∷◌, map, length, arith, lit≤, eq-or-lt_of_le}
use Rattle.std.proofs.lemmas.Int.{ints}
use Rattle.ring.specs.Size.{AtMost}
use Rattle.numbers.specs.Fraction.{Fraction}
use Rattle.lists.specs.Increasing.{IsMember, IsDistinct}
use Rattle.lists.proofs.Members.{mapped_member, mapped_from}
use Rattle.lists.proofs.Walks.{map_twice}
use Rattle.matrix3.specs.declared.vector.Vec3.{Vec3}
use Rattle.matrix3.specs.Matrices.{EachEntry, entries}
use Rattle.matrix3.proofs.FitsBySize.{product_size, adjugate_size, entries_grown}
use Rattle.crystal_spec.specs.Matrices.{Matrix, product, adjugate, determinant, identity}
use Rattle.std.proofs.lemmas.List.{length-map}
use Rattle.crystal_spec.specs.Operations.{Operation, IsWithinCell}
use Rattle.basis_spec.specs.Metrics.{matrix_multiple}
use Rattle.basis_spec.specs.StepBases.{IsSteps, InLattice}
use Rattle.basis_spec.proofs.MatrixLaws.{product-adjugate}
use Rattle.basis_spec.proofs.StepEntries.{fore_is_adjugate}
use Rattle.op_group.specs.Groups.{IsGroupModulo}
use Rattle.op_group.specs.Views.{operation_of}
use Rattle.positions.specs.Positions.{triple_of}
use Rattle.op_group.specs.declared.operation.Op.{Op}
use Rattle.mag_type.specs.MagneticTypes.{HasOnlyZeroTranslation}
use Rattle.match_spec.specs.Points.{Point, IsPoint}
use Rattle.match_spec.specs.Fractions.{point_of}
use Rattle.match_spec.specs.Maps.{Pair, Carries}
use Rattle.match_spec.specs.FirstMap.{IsBefore, IsEntry, IsClass, IsStepMatrix, IsLeastOrigin, IsFirst, IsNone}
use Rattle.match_spec.specs.Searching.{AreRepresentatives, source_of, IsMatch, AreMatched, IsFirstOfMatrix, IsLaterOfMatrix, IsPart}
use Rattle.match_spec.proofs.ListedGroups.{some_cells, group_of, IsStep, step_facts, index_small}
use Rattle.match_spec.proofs.Conjugate.{conjugated}
use Rattle.match_spec.proofs.Search.{turn_nonzero, as_many, chosen_pairs, found_origin, no_origin, part_of, part_length, image_there, inner_there}
use Rattle.match_spec.proofs.Origins.{some_pair}
use Rattle.match_spec.proofs.Transport.{least_origin_equal}
use Rattle.group_match.specs.declared.inner.Source.{Source}
use Rattle.group_match.specs.declared.pair.Matched.{Matched}
use Rattle.group_match.specs.Sources.{op_of, IsStepPair, AreSources, HasNoInner}
use Rattle.group_match.specs.Matching.{pair_of, source_op, AreCarried, HasNoImage, HasSameRows}
use Rattle.group_match.specs.Origins.{AreSized, HasPlace, HasNoPlace}
use Rattle.group_match.specs.Candidates.{matrix_of_number}
use Rattle.group_match.specs.Tasks.{IsTask, AreSourcesOf, IsNoneBefore}
use Rattle.op_group.specs.Lists.{HasEntriesAtMost}
use Rattle.group_match.proofs.Numbered.{number_of, number_below, matrix-number, entries_of_number, number_before}
use Rattle.group_match.proofs.Blocks.{same_rows}

-- ---- the class

entry_size : (x : ℤ) → IsEntry x → AtMost 1 x
entry_size (pos n) e = record { size = omega (arith, ints, e.high) }
entry_size (negsuc n) e = record { size = omega (arith, ints, e.low) }

pub class_size : (c : Matrix) → IsClass c → EachEntry (AtMost 1) c
class_size c k = record {
  a11 = entry_size c.a11 k.small.a11;
  a12 = entry_size c.a12 k.small.a12;
  a13 = entry_size c.a13 k.small.a13;
  a21 = entry_size c.a21 k.small.a21;
  a22 = entry_size c.a22 k.small.a22;
  a23 = entry_size c.a23 k.small.a23;
  a31 = entry_size c.a31 k.small.a31;
  a32 = entry_size c.a32 k.small.a32;
  a33 = entry_size c.a33 k.small.a33;
}

pub class_of_number : (j : ℕ) (c : Matrix) → c ≡ matrix_of_number j → determinant c ≡ pos 1 → IsClass c
class_of_number j c e d = record { small = subst (EachEntry IsEntry) (sym e) (entries_of_number j); proper = d }

-- ---- the matrix S

-- S and index · S⁻¹
pub step_pair : (h : List Operation) (index : ℕ) (back fore : Matrix) → IsGroupModulo 12 h → IsSteps 12 (InLattice 12 h) index back fore → pos index ≡ determinant back → EachEntry (AtMost index) back → EachEntry (AtMost index) fore → IsStepPair index back fore
step_pair h index back fore g k e eb ef =
    let st = step_facts h back g (record { index = index; fore = fore; steps = k }) in
    let few = index_small 12 (InLattice 12 h) index back fore k in
    record {
      at_least = positive index (subst (λ (z : ℤ). pos 0 <ℤ z) (sym e) st.above);
      at_most = few;
      left = k.fore_is;
      right = ap (product back) (fore_is_adjugate index fore back st.above e k.fore_is) ∙ (product-adjugate back ∙ ap (λ (z : ℤ). matrix_multiple z identity) (sym e));
      small = entries_grown few eb;
      fore_small = entries_grown few ef;
    }
  where
    positive : (i : ℕ) → pos 0 <ℤ pos i → 1 ≤ i
    positive i h = omega (arith, ints, h)

-- ---- one P

module _ (h : List Operation) (n : ℕ) (m : List Operation) (t : IsTask h n m) (s : Matrix) (sm : IsStepMatrix h s) (ss : List Source) (so : AreSourcesOf h s ss) (many : length ss ≡ length m) (c : Matrix) (ic : IsClass c) where
  st : IsStep h s
  st = step_facts h s t.symbol_group sm

  abbrev pub rs : List Operation
  rs = map (λ x. operation_of (op_of x)) ss

  representatives : AreRepresentatives h rs
  representatives = so.representatives

  as_long : length rs ≡ length m
  as_long = length-map ss (λ x. operation_of (op_of x)) ∙ many

  enough : length m ≤ length rs
  enough = omega (arith, as_long)

  nonzero : determinant (product c s) ≡ pos 0 → ⊥
  nonzero = turn_nonzero n m t.found_group t.primitive h t.symbol_group s st rs representatives t.once c ic

  source_of_list : (x : Source) → IsMember x ss → IsMember (operation_of x.op) h
  source_of_list x hx = so.representatives.of_list (operation_of x.op) (mapped_member (λ y. operation_of (op_of y)) x ss hx)

  -- the entries of Q
  pub turn_size : EachEntry (AtMost 5184) (product c s)
  turn_size = entries_grown (lit≤ tt) (product_size c s (class_size c ic) st.small)

  -- without an image nothing carries
  pub no_image : HasNoImage c m ss → (p : Point) → IsPoint p → Carries (product c s) p h (pos n) m → ⊥
  no_image none p ip ca =
      let x = none.source in
      let f = image_there c s x.inner p h (pos n) m nonzero ic ca (operation_of x.op) (source_of_list x none.of_list) (so.inner x none.of_list).turned in
      none.none f.0 f.1.0 f.1.1.0 f.1.1.1

  module _ (xs : List Matched) (k : AreCarried c m ss xs) where
    pub matched : AreMatched (product c s) m rs (map pair_of xs)
    matched = record { sources = same xs ∙ (ap (map operation_of) k.sources ∙ sym (map_twice op_of operation_of ss)); each = each }
      where
        same : (ys : List Matched) → map source_of (map pair_of ys) ≡ map operation_of (map source_op ys)
        same [] = refl
        same (y ∷ ys) = ap (λ w. operation_of y.source ∷ w) (same ys)

        each : (p : Pair) → IsMember p (map pair_of xs) → IsMatch (product c s) m p
        each p hp =
            let x = mapped_from pair_of p xs hp in
            let y = k.each x.item x.of_list in
            let i = y.1.1 in
            subst (IsMatch (product c s) m) (sym x.is) (record {
              member = i.member;
              matrix = ap (λ w. product w (product c s)) i.matrix ∙ (conjugated c y.0.inner s y.0.op.w ic.proper (so.inner y.0 y.1.0).turned ∙ ap (λ o. product (product c s) o.w) (sym i.source));
              sign = i.sign ∙ ap (λ o. o.sign) (sym i.source);
            })

    pub sized : AreSized n xs
    sized x hx =
        let y = k.each x hx in
        let i = y.1.1 in
        record {
          source = subst (λ o. IsWithinCell 12 (triple_of o.shift)) (sym i.source) (t.symbol_group.within_cell (operation_of y.0.op) (source_of_list y.0 y.1.0));
          member = t.found_group.within_cell (operation_of x.member) i.member;
          matrix = t.small (operation_of x.member) i.member;
        }

    module _ (ys : List Matched) (pt : IsPart (IsFirstOfMatrix m) (IsLaterOfMatrix m) (map pair_of xs) (map pair_of ys)) where
      pub chosen_sized : AreSized n ys
      chosen_sized y hy =
          let p = part_of (IsFirstOfMatrix m) (IsLaterOfMatrix m) (map pair_of xs) (map pair_of ys) pt (pair_of y) (mapped_member pair_of y ys hy) in
          let x = mapped_from pair_of (pair_of y) xs p.0 in
          let z = sized x.item x.of_list in
          record {
            source = subst (λ (q : Pair). IsWithinCell 12 q.source.translation) (sym x.is) z.source;
            member = subst (λ (q : Pair). IsWithinCell n q.member.translation) (sym x.is) z.member;
            matrix = subst (λ (q : Pair). EachEntry (AtMost 150000000) q.member.matrix) (sym x.is) z.matrix;
          }

      pub chosen_few : length ys ≤ 96
      chosen_few =
          let le = part_length (IsFirstOfMatrix m) (IsLaterOfMatrix m) (map pair_of xs) (map pair_of ys) pt in
          let lx : length xs ≡ length ss = sym (length-map xs source_op) ∙ (ap length k.sources ∙ length-map ss op_of) in
          omega (arith, le, length-map xs pair_of, length-map ys pair_of, lx, many, t.few)

      -- the first of the balanced origins
      pub origin_found : (f : Vec3 Fraction) → HasPlace (product c s) (pos n) (map pair_of xs) (map pair_of ys) f → IsLeastOrigin s h (pos n) m c (point_of f)
      origin_found f p =
          least_origin_equal s h (pos n) m c _ (point_of f) (some_cells n m t.found_group) (found_origin n m t.found_group t.primitive h t.symbol_group s st rs representatives t.once c ic (map pair_of xs) matched enough (map pair_of ys) pt p.start p.is_start.in_cell p.is_start.whole p.z p.is_place p.whole p.earlier) p.same p.is_point

      pub origin_absent : HasNoPlace (product c s) (pos n) (map pair_of xs) (map pair_of ys) → (p : Point) → IsPoint p → Carries (product c s) p h (pos n) m → ⊥
      origin_absent none p ip ca =
          no_origin n m t.found_group t.primitive h t.symbol_group s st rs representatives t.once c ic (map pair_of xs) matched enough (map pair_of ys) pt none.start none.is_start.in_cell none.is_start.whole none.none p ip ca

      pub chosen_some : 1 ≤ length ys
      chosen_some =
          let ps = chosen_pairs n m t.found_group t.primitive h t.symbol_group s st rs representatives t.once c ic (map pair_of xs) matched enough (map pair_of ys) pt in
          at_least (length ys) (subst (λ (l : ℕ). pos 0 <ℤ pos l) (length-map ys pair_of) (some_pair (pos n) m (map pair_of ys) (group_of n m t.found_group) ps.matrices))
        where
          at_least : (l : ℕ) → pos 0 <ℤ pos l → 1 ≤ l
          at_least l h = omega (arith, ints, h)

-- ---- all P

module _ (h : List Operation) (n : ℕ) (m : List Operation) (s : Matrix) where
  abbrev pub NoneBefore : ℕ → Type 0
  NoneBefore k = IsNoneBefore h n m s k

  pub first_found : (k : ℕ) (c : Matrix) (p : Point) → k < 19683 → c ≡ matrix_of_number k → NoneBefore k → IsClass c → IsLeastOrigin s h (pos n) m c p → IsFirst s h (pos n) m c p
  first_found k c p below e none ic l = record { class = ic; least_origin = l; first = before }
    where
      before : (d : Matrix) → IsClass d → IsBefore (entries d) (entries c) → (o : Point) → IsPoint o → Carries (product d s) o h (pos n) m → ⊥
      before d id b o io ca =
          let j = number_of d id in
          let is = matrix-number d id in
          none j (number_before j k (number_below d id) below (subst (λ (a : Matrix). IsBefore (entries (matrix_of_number j)) (entries a)) e (subst (λ (a : Matrix). IsBefore (entries a) (entries c)) (sym is) b))) (subst IsClass (sym is) id) o io (subst (λ (a : Matrix). Carries (product a s) o h (pos n) m) (sym is) ca)

  pub one_more_none : (k : ℕ) (c : Matrix) → c ≡ matrix_of_number k → NoneBefore k → (IsClass c → (p : Point) → IsPoint p → Carries (product c s) p h (pos n) m → ⊥) → NoneBefore (k + 1)
  one_more_none k c e none here j l ij p ip ca = by (eq-or-lt_of_le (omega (arith, l)))
    where
      by : (j ≡ k) ⊎ (j < k) → ⊥
      by (inl f) =
          let is : matrix_of_number j ≡ c = ap matrix_of_number f ∙ sym e in
          here (subst IsClass is ij) p ip (subst (λ (a : Matrix). Carries (product a s) p h (pos n) m) is ca)
      by (inr b) = none j b ij p ip ca

  -- a block whose first two rows fail
  pub block_none : (b : ℕ) (p : Matrix) → p ≡ matrix_of_number (b * 27) → NoneBefore (b * 27) → ((q : Matrix) → HasSameRows p q → IsClass q → (o : Point) → IsPoint o → Carries (product q s) o h (pos n) m → ⊥) → NoneBefore ((b + 1) * 27)
  block_none b p e none here j l ij o io ca = by (split (b * 27) j)
    where
      split : (k j : ℕ) → (j < k) ⊎ (k ≤ j)
      split k j = grind arith

      by : (j < b * 27) ⊎ (b * 27 ≤ j) → ⊥
      by (inl k) = none j k ij o io ca
      by (inr k) = here (matrix_of_number j) (subst (λ (a : Matrix). HasSameRows a (matrix_of_number j)) (sym e) (same_rows b j k (omega (arith, l)))) ij o io ca

  pub none_at_all : (k : ℕ) → 19683 ≤ k → NoneBefore k → IsNone s h (pos n) m
  none_at_all k l none = record { none = λ c ic p ip ca. (let is = matrix-number c ic in none (number_of c ic) (less (number_below c ic)) (subst IsClass (sym is) ic) p ip (subst (λ (a : Matrix). Carries (product a s) p h (pos n) m) (sym is) ca)) }
    where
      less : {j : ℕ} → j < 19683 → j < k
      less b = omega (arith, b, l)

-- ---- refusals before any P

-- where the representatives are not as many as the members nothing carries
pub not_as_many : (h : List Operation) (n : ℕ) (m : List Operation) (s : Matrix) (rs : List Operation) → IsGroupModulo 12 h → IsGroupModulo n m → HasOnlyZeroTranslation m → IsDistinct m → IsStepMatrix h s → AreRepresentatives h rs → (length rs ≡ length m → ⊥) → IsNone s h (pos n) m
not_as_many h n m s reps gh g pr d sm ar differ = record {
  none = λ c ic p ip ca. differ (as_many n m g pr h gh s (step_facts h s gh sm) reps ar d c ic p ca);
}

-- adj(P) V P is small where V is
inner_size : (c v : Matrix) → EachEntry (AtMost 1) c → EachEntry (AtMost 150000000) v → EachEntry (AtMost 2700000000) (product (adjugate c) (product v c))
inner_size c v a b = entries_grown (lit≤ tt) (product_size (adjugate c) (product v c) (adjugate_size c a) (product_size v c b a))

-- where an operation has no small matrix in the triangular basis nothing carries
pub no_inner : (h : List Operation) (n : ℕ) (m : List Operation) (s : Matrix) (rs : List Operation) → HasEntriesAtMost 150000000 m → AreRepresentatives h rs → HasNoInner s rs → IsNone s h (pos n) m
no_inner h n m s reps small ar lack = record {
  none = λ c ic p ip ca. (let f = inner_there c s p h (pos n) m ic ca lack.operation (ar.of_list lack.operation lack.of_list) in lack.none (product (adjugate c) (product f.0.matrix c)) (inner_size c f.0.matrix (class_size c ic) (small f.0 f.1.0)) f.1.1);
}

-- the sources are representatives
pub sources_of : (h : List Operation) (s : Matrix) (ops : List Op) (ss : List Source) → AreRepresentatives h (map operation_of ops) → AreSources s ops ss → AreSourcesOf h s ss
sources_of h s ops ss ar so = record { representatives = subst (AreRepresentatives h) (ap (map operation_of) (sym so.ops_are) ∙ sym (map_twice op_of operation_of ss)) ar; inner = so.inner }

-- ---- the same in other terms

pub n_at_least : (n : ℕ) (m : List Operation) → IsGroupModulo n m → 1 ≤ n
n_at_least n m g = positive n (some_cells n m g)
  where
    positive : (i : ℕ) → pos 0 <ℤ pos i → 1 ≤ i
    positive i h = omega (arith, ints, h)

pub moved_place : {q r : Matrix} {n l : ℕ} {xs xt ys yt : List Matched} {f : Vec3 Fraction} → q ≡ r → n ≡ l → xs ≡ xt → ys ≡ yt → HasPlace q (pos n) (map pair_of xs) (map pair_of ys) f → HasPlace r (pos l) (map pair_of xt) (map pair_of yt) f
moved_place {q} {r} {n} {l} {xs} {xt} {ys} {yt} {f} a b d e p =
    subst (λ w. HasPlace r (pos l) (map pair_of xt) (map pair_of w) f) e (subst (λ w. HasPlace r (pos l) (map pair_of w) (map pair_of ys) f) d (subst (λ (k : ℕ). HasPlace r (pos k) (map pair_of xs) (map pair_of ys) f) b (subst (λ w. HasPlace w (pos n) (map pair_of xs) (map pair_of ys) f) a p)))

pub moved_no_place : {q r : Matrix} {n l : ℕ} {xs xt ys yt : List Matched} → q ≡ r → n ≡ l → xs ≡ xt → ys ≡ yt → HasNoPlace q (pos n) (map pair_of xs) (map pair_of ys) → HasNoPlace r (pos l) (map pair_of xt) (map pair_of yt)
moved_no_place {q} {r} {n} {l} {xs} {xt} {ys} {yt} a b d e p =
    subst (λ w. HasNoPlace r (pos l) (map pair_of xt) (map pair_of w)) e (subst (λ w. HasNoPlace r (pos l) (map pair_of w) (map pair_of ys)) d (subst (λ (k : ℕ). HasNoPlace r (pos k) (map pair_of xs) (map pair_of ys)) b (subst (λ w. HasNoPlace w (pos n) (map pair_of xs) (map pair_of ys)) a p)))
