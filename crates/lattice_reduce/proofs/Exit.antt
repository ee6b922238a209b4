-- Where no test of the choice finds a step, the conditions are met.
--   reduced_acute, reduced_obtuse    the parts of the conditions, in either form, make a Niggli-reduced metric tensor
--   acute_of, obtuse_of              the sign of b·c tells the form
use Rattle.std.proofs.Common.{◌≡◌, ℤ, pos, ◌+ℤ◌, neg_ℤ, ◌≤ℤ◌, ◌<ℤ◌, inl, inr, arith}
use Rattle.std.proofs.lemmas.Int.{ints}
use Rattle.lattice_spec.specs.Tensor.{Tensor, tensor_matrix}
use Rattle.lattice_spec.specs.Niggli.{size, twice, IsAcute, IsObtuse, IsNiggli}
use Rattle.lattice_reduce.specs.Parts.{IsSorted, IsShort, IsSigned, HasAcuteEdges, HasObtuseEdges, HasPositiveDiagonal, sum_excess, excess_of}

-- ---- form I

twice_positive : (x : ℤ) → pos 0 <ℤ x → pos 0 <ℤ twice x
twice_positive x h = omega (arith, ints)

twice_sizes_acute : (x y : ℤ) → pos 0 <ℤ x → pos 0 <ℤ y → size x ≤ℤ size y → twice x ≤ℤ twice y
twice_sizes_acute x y h k l = omega (arith, ints, h, k, l)

not_both : (x : ℤ) → pos 0 <ℤ x → x ≤ℤ pos 0 → ⊥
not_both x h k = omega (arith, ints, h, k)

-- the parts of the conditions in form I
pub reduced_acute : (s : Tensor ℤ) → HasPositiveDiagonal s → IsSorted s → IsShort s → IsAcute s.bc s.ac s.ab → HasAcuteEdges s → IsNiggli (tensor_matrix s)
reduced_acute s d o t p e =
    let x = twice_positive s.bc p.x_positive in
    record {
      main = record {
        a_positive = d.aa;
        a_to_b = o.a_to_b;
        b_to_c = o.b_to_c;
        x_to_b = t.x_to_b;
        y_to_a = t.y_to_a;
        z_to_a = t.z_to_a;
        form = inl (record { x_positive = x; y_positive = twice_positive s.ac p.y_positive; z_positive = twice_positive s.ab p.z_positive });
      };
      acute = λ _. record {
        a_is_b = λ q. twice_sizes_acute s.bc s.ac p.x_positive p.y_positive (o.a_is_b q);
        b_is_c = λ q. twice_sizes_acute s.ac s.ab p.y_positive p.z_positive (o.b_is_c q);
        x_is_b = e.x_is_b;
        y_is_a = e.y_is_a;
        z_is_a = e.z_is_a;
      };
      obtuse = λ q. absurd (not_both (twice s.bc) x q.x_at_most_0);
    }

-- ---- form II

twice_at_most_0 : (x : ℤ) → x ≤ℤ pos 0 → twice x ≤ℤ pos 0
twice_at_most_0 x h = omega (arith, ints)

twice_sizes : (x y : ℤ) → size x ≤ℤ size y → size (twice x) ≤ℤ size (twice y)
twice_sizes x y h = omega (arith, ints)

minus : (x b : ℤ) → x ≤ℤ pos 0 → size x ≡ b → x ≡ neg_ℤ b
minus x b h e = omega (arith, ints)

twice_zero : (x : ℤ) → x ≤ℤ pos 0 → pos 0 ≤ℤ x → twice x ≡ pos 0
twice_zero x h k = omega (arith, ints)

sizes_are : (a b x y z : ℤ) → x ≤ℤ pos 0 → y ≤ℤ pos 0 → z ≤ℤ pos 0 → sum_excess a b x y z +ℤ (size x +ℤ size y +ℤ size z) ≡ a +ℤ b
sizes_are a b x y z h k l = omega (arith, ints)

within : (e m s : ℤ) → e +ℤ m ≡ s → pos 0 ≤ℤ e → m ≤ℤ s
within e m s h k = omega (arith, ints)

no_excess : (e m s : ℤ) → e +ℤ m ≡ s → m ≡ s → e ≡ pos 0
no_excess e m s h k = omega (arith, ints)

edge_sizes : (a y z : ℤ) → y ≤ℤ pos 0 → z ≤ℤ pos 0 → (twice (a +ℤ y) +ℤ z) ≤ℤ pos 0 → twice a ≤ℤ (twice (size y) +ℤ size z)
edge_sizes a y z h k l = omega (arith, ints)

-- the parts of the conditions in form II
pub reduced_obtuse : (s : Tensor ℤ) → HasPositiveDiagonal s → IsSorted s → IsShort s → IsObtuse s.bc s.ac s.ab → pos 0 ≤ℤ excess_of s → HasObtuseEdges s → IsNiggli (tensor_matrix s)
reduced_obtuse s d o t p n e =
    let x = twice_at_most_0 s.bc p.x_at_most_0 in
    let y = twice_at_most_0 s.ac p.y_at_most_0 in
    let z = twice_at_most_0 s.ab p.z_at_most_0 in
    let sizes = sizes_are s.aa s.bb (twice s.bc) (twice s.ac) (twice s.ab) x y z in
    let most = size (twice s.bc) +ℤ size (twice s.ac) +ℤ size (twice s.ab) in
    record {
      main = record {
        a_positive = d.aa;
        a_to_b = o.a_to_b;
        b_to_c = o.b_to_c;
        x_to_b = t.x_to_b;
        y_to_a = t.y_to_a;
        z_to_a = t.z_to_a;
        form = inr (record { x_at_most_0 = x; y_at_most_0 = y; z_at_most_0 = z }, within (excess_of s) most (s.aa +ℤ s.bb) sizes n);
      };
      acute = λ q. absurd (not_both (twice s.bc) q.x_positive x);
      obtuse = λ _. record {
        a_is_b = λ q. twice_sizes s.bc s.ac (o.a_is_b q);
        b_is_c = λ q. twice_sizes s.ac s.ab (o.b_is_c q);
        x_is_b = λ q. twice_zero s.ab p.z_at_most_0 (e.x_is_b (minus (twice s.bc) s.bb x q));
        y_is_a = λ q. twice_zero s.ab p.z_at_most_0 (e.y_is_a (minus (twice s.ac) s.aa y q));
        z_is_a = λ q. twice_zero s.ac p.y_at_most_0 (e.z_is_a (minus (twice s.ab) s.aa z q));
        sum_is_most = λ q. edge_sizes s.aa (twice s.ac) (twice s.ab) y z (e.sum_is_most (no_excess (excess_of s) most (s.aa +ℤ s.bb) sizes q));
      };
    }

-- ---- the form

-- all three are positive where the first is
pub acute_of : (x y z : ℤ) → IsSigned x y z → pos 0 <ℤ x → IsAcute x y z
acute_of x y z (inl p) h = p
acute_of x y z (inr p) h = absurd (not_both x h p.x_at_most_0)

-- none is where the first is not
pub obtuse_of : (x y z : ℤ) → IsSigned x y z → x ≤ℤ pos 0 → IsObtuse x y z
obtuse_of x y z (inr p) h = p
obtuse_of x y z (inl p) h = absurd (not_both x p.x_positive h)
