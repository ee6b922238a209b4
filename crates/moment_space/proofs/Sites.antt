-- Site-symmetry groups: they are groups, have at most 40,000 operations, and allow the moments of their atoms.
use Rattle.std.proofs.Common.{◌≡◌, refl, sym, ap, subst, ◌∙◌, ℕ, zero, suc, ◌+◌, ◌*◌, ◌<◌, ◌≤◌, [], ◌∷◌, List, length, arith}
use Rattle.std.specs.Prelude.{ℤ, pos, negsuc, slice_get, Some}
use Rattle.std.proofs.lemmas.Int.{ints}
use Rattle.ring.specs.Size.{AtMost}
use Rattle.lists.specs.Increasing.{IsMember}
use Rattle.lists.proofs.Counting.{few_by_numbers}
use Rattle.lists.proofs.Members.{member_at}
use Rattle.lists.proofs.Increasing.{increasing_distinct}
use Rattle.crystal_spec.specs.declared.MomentKind.{MomentKind}
use Rattle.crystal_spec.specs.declared.Sign.{Sign}
use Rattle.crystal_spec.specs.declared.Sign.TheVariants.{Same, Reversed}
use Rattle.crystal_spec.specs.Matrices.{Triple, Matrix, image, difference}
use Rattle.crystal_spec.specs.Moments.{turn_matrix}
use Rattle.crystal_spec.specs.Crystals.{Atom, Structure, position_after, moment_after}
use Rattle.crystal_spec.specs.Operations.{Operation, ListsAll, compare_of, sign_factor}
use Rattle.crystal_spec.specs.Cells.{DiffersByCells, HasOneAtomEach}
use Rattle.crystal_spec.proofs.Entrywise.{matrix_same}
use Rattle.crystal_spec.proofs.Images.{occupied_itself}
use Rattle.crystal_spec.proofs.Moments.{moment_after-identity}
use Rattle.crystal_spec.proofs.Ordered.{compare_total}
use Rattle.matrix3.specs.Bounds.{EntriesAtMost}
use Rattle.basis_spec.specs.Bases.{SameCrystal}
use Rattle.basis_spec.proofs.PrimitiveCell.{differs_sym, differs_trans}
use Rattle.basis_spec.proofs.PureTranslations.{translations_same}
use Rattle.op_group.specs.Composition.{identity_operation}
use Rattle.op_group.specs.Groups.{IsGroupModulo}
use Rattle.op_group.specs.Lists.{AllWithinCell, HasEntriesAtMost}
use Rattle.op_group.proofs.Composing.{composed_moment}
use Rattle.site_orbits.specs.Orbits.{Carries, ListsSite}
use Rattle.site_orbits.proofs.Equivalence.{carries_composed, identity_carries, carries_back}
use Rattle.moment_space.specs.Projectors.{IsAllowed}
use Rattle.moment_space.proofs.CarriedMoments.{own_translation}

module _ (n : ℕ) (os : List Operation) (q : Triple) (site : List Operation) (lists : ListsSite n os q site) where
  -- the operations of a group that carry a position to itself are a group
  pub site_group : IsGroupModulo n os → IsGroupModulo n site
  site_group g = record {
    within_cell = λ o m. g.within_cell o ((lists.exact o).0 m).0;
    identity = (lists.exact identity_operation).1 (g.identity, identity_carries n q);
    composed = λ a b j k. let x = (lists.exact a).0 j in
        let y = (lists.exact b).0 k in
        let r = g.composed a b x.0 y.0 in
        (r.0, ((lists.exact r.0).1 (r.1.0, carries_composed a b r.0 q r.1.1 x.1 y.1), r.1.1));
    inverses = λ a j. let x = (lists.exact a).0 j in
        let r = g.inverses a x.0 in
        (r.0, ((lists.exact r.0).1 (r.1.0, carries_back a r.0 r.1.1.after x.1), r.1.1));
  }

  -- where they all keep a moment, the operations that carry the position to another carry the moment to one moment
  pub carried_alike : IsGroupModulo n os → (kind : MomentKind) (m : Triple) → IsAllowed kind site m → (a b : Operation) (p : Triple) → IsMember a os → IsMember b os → Carries n a q p → Carries n b q p →
      moment_after kind a.matrix (sign_factor a.sign) m ≡ moment_after kind b.matrix (sign_factor b.sign) m
  carried_alike g kind m allowed a b p j k f h =
      let i = g.inverses b k in
      let r = g.composed a i.0 j i.1.0 in
      let fixed = (lists.exact r.0).1 (r.1.0, carries_composed a i.0 r.0 q r.1.1 f (carries_back b i.0 i.1.1.after h)) in
      let am = moment_after kind a.matrix (sign_factor a.sign) m in
      let back : moment_after kind i.0.matrix (sign_factor i.0.sign) am ≡ m = composed_moment kind n a i.0 r.0 r.1.1 m ∙ allowed r.0 fixed in
      sym (moment_after-identity kind am) ∙ sym (composed_moment kind n i.0 b identity_operation i.1.1.before am) ∙ ap (moment_after kind b.matrix (sign_factor b.sign)) back

-- ---- how many operations a site-symmetry group has
-- a number below 3 for each of -1, 0 and 1
digit : ℤ → ℕ
digit (pos k) = k
digit (negsuc k) = 2

digit_small : (z : ℤ) → AtMost 1 z → digit z < 3
unfolding digit
digit_small (pos k) h = omega (arith, ints, h.size)
digit_small (negsuc k) h = omega arith

digit_once : (z w : ℤ) → AtMost 1 z → AtMost 1 w → digit z ≡ digit w → z ≡ w
unfolding digit
digit_once (pos j) (pos k) h i e = ap pos e
digit_once (pos j) (negsuc k) h i e = absurd (omega (arith, ints, h.size, e))
digit_once (negsuc j) (pos k) h i e = absurd (omega (arith, ints, i.size, e))
digit_once (negsuc j) (negsuc k) h i e = let p : j ≡ k = omega (arith, ints, h.size, i.size) in ap negsuc p

-- one digit more
more : ℕ → ℤ → ℕ
more k z = 3 * k + digit z

more_small : (k N : ℕ) (z : ℤ) → k < N → AtMost 1 z → more k z < 3 * N
unfolding more
more_small k N z h i = let d = digit_small z i in omega (arith, h, d)

record SameMore (j k : ℕ) (z w : ℤ) : Type 0 where
  before : j ≡ k
  digits : z ≡ w

more_once : (j k : ℕ) (z w : ℤ) → AtMost 1 z → AtMost 1 w → more j z ≡ more k w → SameMore j k z w
unfolding more
more_once j k z w h i e =
    let d = digit_small z h in
    let f = digit_small w i in
    let p : j ≡ k = omega (arith, d, f, e) in
    record { before = p; digits = digit_once z w h i (omega (arith, d, f, e)) }

sign_digit : Sign → ℕ
sign_digit Same = 0
sign_digit Reversed = 1

sign_small : (s : Sign) → sign_digit s < 2
unfolding sign_digit
sign_small Same = omega arith
sign_small Reversed = omega arith

sign_once : (s t : Sign) → sign_digit s ≡ sign_digit t → s ≡ t
unfolding sign_digit
sign_once Same Same e = refl
sign_once Same Reversed e = absurd (omega (arith, e))
sign_once Reversed Same e = absurd (omega (arith, e))
sign_once Reversed Reversed e = refl

-- a number below 2 · 3⁹ for each time sign and matrix with entries -1, 0 and 1
number : Operation → ℕ
number o =
    let w = o.matrix in
    more (more (more (more (more (more (more (more (more (sign_digit o.sign) w.a11) w.a12) w.a13) w.a21) w.a22) w.a23) w.a31) w.a32) w.a33

number_small : (o : Operation) → EntriesAtMost 1 o.matrix → number o < 39366
unfolding number
number_small o h =
    more_small _ 13122 o.matrix.a33 (more_small _ 4374 o.matrix.a32 (more_small _ 1458 o.matrix.a31 (more_small _ 486 o.matrix.a23 (more_small _ 162 o.matrix.a22 (more_small _ 54 o.matrix.a21 (more_small _ 18 o.matrix.a13 (more_small _ 6 o.matrix.a12 (more_small _ 2 o.matrix.a11 (sign_small o.sign) h.a11) h.a12) h.a13) h.a21) h.a22) h.a23) h.a31) h.a32) h.a33

record SameKind (a b : Operation) : Type 0 where
  matrix : a.matrix ≡ b.matrix
  sign : a.sign ≡ b.sign

number_once : (a b : Operation) → EntriesAtMost 1 a.matrix → EntriesAtMost 1 b.matrix → number a ≡ number b → SameKind a b
unfolding number
number_once a b h k e =
    let r33 = more_once _ _ a.matrix.a33 b.matrix.a33 h.a33 k.a33 e in
    let r32 = more_once _ _ a.matrix.a32 b.matrix.a32 h.a32 k.a32 r33.before in
    let r31 = more_once _ _ a.matrix.a31 b.matrix.a31 h.a31 k.a31 r32.before in
    let r23 = more_once _ _ a.matrix.a23 b.matrix.a23 h.a23 k.a23 r31.before in
    let r22 = more_once _ _ a.matrix.a22 b.matrix.a22 h.a22 k.a22 r23.before in
    let r21 = more_once _ _ a.matrix.a21 b.matrix.a21 h.a21 k.a21 r22.before in
    let r13 = more_once _ _ a.matrix.a13 b.matrix.a13 h.a13 k.a13 r21.before in
    let r12 = more_once _ _ a.matrix.a12 b.matrix.a12 h.a12 k.a12 r13.before in
    let r11 = more_once _ _ a.matrix.a11 b.matrix.a11 h.a11 k.a11 r12.before in
    record { matrix = matrix_same r11.digits r12.digits r13.digits r21.digits r22.digits r23.digits r31.digits r32.digits r33.digits; sign = sign_once a.sign b.sign r11.before }

-- the numbers below n
below : ℕ → List ℕ
below zero = []
below (suc n) = n ∷ below n

-- two operations of one matrix that carry a position to itself have translation parts that differ by whole cells
fixed_translations : (n : ℕ) (q : Triple) (a b : Operation) → a.matrix ≡ b.matrix → Carries n a q q → Carries n b q q → DiffersByCells n a.translation b.translation
fixed_translations n q a b e h k =
    differs_trans (differs_sym (own_translation n a q q h)) (subst (λ (w : Matrix). DiffersByCells n (difference q (image w q)) b.translation) (sym e) (own_translation n b q q k))

-- at most one operation a matrix and time sign, so at most 2 · 3⁹
pub site_few : (n : ℕ) (os : List Operation) (q : Triple) (site : List Operation) → ListsSite n os q site → AllWithinCell n os → HasEntriesAtMost 1 os → length site ≤ 40000
site_few n os q site lists within small =
    let few = few_by_numbers number 39366 site (increasing_distinct compare_of compare_total site lists.increasing)
    (λ o m. number_small o (small o ((lists.exact o).0 m).0)) one in
    omega (arith, few)
  where
    one : (a b : Operation) → IsMember a site → IsMember b site → number a ≡ number b → a ≡ b
    one a b j k e =
        let x = (lists.exact a).0 j in
        let y = (lists.exact b).0 k in
        let s = number_once a b (small a x.0) (small b y.0) e in
        let t = translations_same n a.translation b.translation (within a x.0) (within b y.0) (fixed_translations n q a b s.matrix x.1 y.1) in
        λ i. record { matrix = s.matrix i; translation = t i; sign = s.sign i }

-- ---- the moment of an atom is allowed
pub own_moment : (c b : Structure) (r : Matrix) (os site : List Operation) → SameCrystal c b r → HasOneAtomEach b → ListsAll b os → (i : ℕ) (a : Atom) → slice_get c.atoms i ≡ Some a → ListsSite b.n os (image r a.position) site →
    IsAllowed c.kind site (image (turn_matrix c.kind r) a.moment)
own_moment c b r os site same one all i a at lists o m =
    let fixed = (lists.exact o).0 m in
    let q = image r a.position in
    let v = image (turn_matrix c.kind r) a.moment in
    let from = (same.crystal a.species a.position a.moment).0 (occupied_itself c a (member_at c.atoms i a at)) in
    let to = (((all.exact o).0 fixed.0).keeps.crystal a.species q v).0 from in
    let there : DiffersByCells b.n (position_after o.matrix o.translation q) to.atom.position = record { cells = to.cells; is = to.same_position } in
    let here : DiffersByCells b.n q from.atom.position = record { cells = from.cells; is = from.same_position } in
    let is : to.atom ≡ from.atom = one to.atom from.atom to.of_cell from.of_cell (differs_trans (differs_sym there) (differs_trans fixed.1 here)) in
    ap (λ (k : MomentKind). moment_after k o.matrix (sign_factor o.sign) v) (sym same.kind) ∙ sym to.same_moment ∙ ap (λ (x : Atom). x.moment) is ∙ from.same_moment
