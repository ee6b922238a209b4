-- Maps of one crystal onto another with translation parts in units of 1/d, one d for all of them, so that one map after
-- another and the way back have no fractions. A map takes p in units of 1/n to q in units of 1/n' with q/n' = W p/n + t/d.
--   Sends d a b w t sign     so the map carries the crystal a onto b, and it is an isometry of determinant 1 or -1
--   composed                 first the one, then the other
--   sent_back                the way back
use Rattle.std.proofs.Common.{◌≡◌, ℕ, List, [], ◌∷◌, ◌++◌, ℤ, pos, negsuc, ◌*ℤ◌, ◌<ℤ◌, refl, sym, ap, ◌∙◌}
use Rattle.std.specs.Prelude.{Some}
use Rattle.ring.specs.Ring.{quoted, var, con, ◌:*◌}
use Rattle.lists.proofs.Members.{same_at}
use Rattle.matrix3.specs.Matrices.{entries, coordinates, matrix_of_variables, vector_of_variables}
use Rattle.matrix3.specs.Matrices as formulas
use Rattle.crystal_spec.specs.declared.MomentKind.{MomentKind}
use Rattle.crystal_spec.specs.declared.Sign.{Sign}
use Rattle.crystal_spec.specs.declared.Sign.TheVariants.{Same, Reversed}
use Rattle.crystal_spec.specs.Matrices.{Triple, Matrix, product, image, determinant, multiple, sum_of}
use Rattle.crystal_spec.specs.Moments.{moment_matrix}
use Rattle.crystal_spec.specs.Crystals.{Structure, Occupied, moment_after}
use Rattle.crystal_spec.specs.Operations.{sign_factor}
use Rattle.crystal_spec.proofs.Identities.{by_integers, by_triples}
use Rattle.crystal_spec.proofs.Isometries.{determinant-product, unit_product, sign_squared}
use Rattle.crystal_spec.proofs.Moments.{moment_after-product, moment_after-identity}
use Rattle.basis_spec.specs.Metrics.{matrix_multiple, metric_in}
use Rattle.basis_spec.proofs.MatrixLaws.{image-product, image-multiple, multiple_swap, matrix_multiple-twice, metric_in-product, metric_in-multiple_metric, metric_in-identity}
use Rattle.basis_spec.proofs.Cancelling.{multiple_cancel, matrix_multiple_cancel}
use Rattle.crystal_compare.specs.Maps.{HaveOneName, CarriesMetric}
use Rattle.crystal_compare.proofs.Inverses.{inverse, inverse_undoes, inverse_before, inverse_after, inverse_unit}

pub record IsSentTo (d : ℤ) (a b : Structure) (w : Matrix) (t : Triple) (sign : Sign) (s : ℕ) (p m : Triple) (r : ℕ) (q l : Triple) : Type 0 where
  pub one_name : HaveOneName a b s r
  pub position : multiple (pos a.n *ℤ d) q ≡ sum_of (multiple (pos b.n *ℤ d) (image w p)) (multiple (pos b.n *ℤ pos a.n) t)
  pub moment : multiple (pos a.k) l ≡ multiple (pos b.k) (moment_after a.kind w (sign_factor sign) m)

pub record HasSent (d : ℤ) (a b : Structure) (w : Matrix) (t : Triple) (sign : Sign) (s : ℕ) (p m : Triple) : Type 0 where
  pub species : ℕ
  pub position : Triple
  pub moment : Triple
  pub occupied : Occupied b species position moment
  pub sent : IsSentTo d a b w t sign s p m species position moment

pub record IsSent (d : ℤ) (a b : Structure) (w : Matrix) (t : Triple) (sign : Sign) (r : ℕ) (q l : Triple) : Type 0 where
  pub species : ℕ
  pub position : Triple
  pub moment : Triple
  pub occupied : Occupied a species position moment
  pub sent : IsSentTo d a b w t sign species position moment r q l

pub record Sends (d : ℤ) (a b : Structure) (w : Matrix) (t : Triple) (sign : Sign) : Type 0 where
  pub same_kind : b.kind ≡ a.kind
  pub unimodular : determinant w *ℤ determinant w ≡ pos 1
  pub metric : CarriesMetric a b w
  pub images : (s : ℕ) (p m : Triple) → Occupied a s p m → HasSent d a b w t sign s p m
  pub onto : (r : ℕ) (q l : Triple) → Occupied b r q l → IsSent d a b w t sign r q l

-- ---- time signs
abbrev pub both : Sign → Sign → Sign
both Same s = s
both Reversed Same = Reversed
both Reversed Reversed = Same

pub both_is : (s r : Sign) → sign_factor (both s r) ≡ sign_factor s *ℤ sign_factor r
both_is Same Same = refl
both_is Same Reversed = refl
both_is Reversed Same = refl
both_is Reversed Reversed = refl

pub both_cancel : (s r x : Sign) → both s r ≡ both s x → r ≡ x
both_cancel Same r x e = e
both_cancel Reversed Same Same e = refl
both_cancel Reversed Same Reversed e = absurd (cc e)
both_cancel Reversed Reversed Same e = absurd (cc e)
both_cancel Reversed Reversed Reversed e = refl

pub both_cancel_last : (s r x : Sign) → both r s ≡ both x s → r ≡ x
both_cancel_last s Same Same e = refl
both_cancel_last Same Same Reversed e = absurd (cc e)
both_cancel_last Reversed Same Reversed e = absurd (cc e)
both_cancel_last Same Reversed Same e = absurd (cc e)
both_cancel_last Reversed Reversed Same e = absurd (cc e)
both_cancel_last s Reversed Reversed e = refl

pub both_twice : (s r : Sign) → both s (both r s) ≡ r
both_twice Same Same = refl
both_twice Same Reversed = refl
both_twice Reversed Same = refl
both_twice Reversed Reversed = refl

-- ---- names
pub names_on : (a b c : Structure) (s r x : ℕ) → HaveOneName a b s r → HaveOneName b c r x → HaveOneName a c s x
names_on a b c s r x h k = record { name = h.name; first = h.first; second = k.second ∙ ap (λ (n : List ℕ). Some n) (same_at b.names r k.name h.name k.first h.second) }

pub names_back : (a b : Structure) (s r : ℕ) → HaveOneName a b s r → HaveOneName b a r s
names_back a b s r h = record { name = h.name; first = h.second; second = h.first }

-- ---- one map after another
positions_on : (d na nb nc : ℤ) (v w : Matrix) (p q r t u : Triple) → pos 0 <ℤ nb → multiple (na *ℤ d) q ≡ sum_of (multiple (nb *ℤ d) (image v p)) (multiple (nb *ℤ na) t) → multiple (nb *ℤ d) r ≡ sum_of (multiple (nc *ℤ d) (image w q)) (multiple (nc *ℤ nb) u) →
    multiple (na *ℤ d) r ≡ sum_of (multiple (nc *ℤ d) (image (product w v) p)) (multiple (nc *ℤ na) (sum_of (image w t) u))
positions_on d na nb nc v w p q r t u above e f =
    multiple_cancel nb (multiple (na *ℤ d) r) (sum_of (multiple (nc *ℤ d) (image (product w v) p)) (multiple (nc *ℤ na) (sum_of (image w t) u))) above
    (swapped ∙ ap (multiple na) f ∙ inside ∙ ap (λ (x : Triple). sum_of (multiple nc (image w x)) (multiple ((nc *ℤ nb) *ℤ na) u)) e ∙ outside (image v p)
    ∙ ap (λ (x : Triple). multiple nb (sum_of (multiple (nc *ℤ d) x) (multiple (nc *ℤ na) (sum_of (image w t) u)))) (sym (image-product w v p)))
  where
    swapped : multiple nb (multiple (na *ℤ d) r) ≡ multiple na (multiple (nb *ℤ d) r)
    swapped =
        let x = vector_of_variables 0 in
        by_triples (coordinates r ++ na ∷ nb ∷ d ∷ []) (formulas.multiple quoted (var 4) (formulas.multiple quoted (var 3 :* var 5) x)) (formulas.multiple quoted (var 3) (formulas.multiple quoted (var 4 :* var 5) x)) refl

    inside : multiple na (sum_of (multiple (nc *ℤ d) (image w q)) (multiple (nc *ℤ nb) u)) ≡ sum_of (multiple nc (image w (multiple (na *ℤ d) q))) (multiple ((nc *ℤ nb) *ℤ na) u)
    inside =
        let m = matrix_of_variables 0 in
        let x = vector_of_variables 9 in
        let y = vector_of_variables 12 in
        by_triples (entries w ++ coordinates q ++ coordinates u ++ na ∷ nb ∷ nc ∷ d ∷ [])
        (formulas.multiple quoted (var 15) (formulas.sum_of quoted (formulas.multiple quoted (var 17 :* var 18) (formulas.image quoted m x)) (formulas.multiple quoted (var 17 :* var 16) y)))
        (formulas.sum_of quoted (formulas.multiple quoted (var 17) (formulas.image quoted m (formulas.multiple quoted (var 15 :* var 18) x))) (formulas.multiple quoted ((var 17 :* var 16) :* var 15) y)) refl

    outside : (y : Triple) → sum_of (multiple nc (image w (sum_of (multiple (nb *ℤ d) y) (multiple (nb *ℤ na) t)))) (multiple ((nc *ℤ nb) *ℤ na) u) ≡ multiple nb (sum_of (multiple (nc *ℤ d) (image w y)) (multiple (nc *ℤ na) (sum_of (image w t) u)))
    outside y =
        let m = matrix_of_variables 0 in
        let x = vector_of_variables 9 in
        let z = vector_of_variables 12 in
        let k = vector_of_variables 15 in
        by_triples (entries w ++ coordinates y ++ coordinates t ++ coordinates u ++ na ∷ nb ∷ nc ∷ d ∷ [])
        (formulas.sum_of quoted (formulas.multiple quoted (var 20) (formulas.image quoted m (formulas.sum_of quoted (formulas.multiple quoted (var 19 :* var 21) x) (formulas.multiple quoted (var 19 :* var 18) z)))) (formulas.multiple quoted ((var 20 :* var 19) :* var 18) k))
        (formulas.multiple quoted (var 19) (formulas.sum_of quoted (formulas.multiple quoted (var 20 :* var 21) (formulas.image quoted m x)) (formulas.multiple quoted (var 20 :* var 18) (formulas.sum_of quoted (formulas.image quoted m z) k)))) refl

moments_on : (kind kind' : MomentKind) (ka kb kc : ℤ) (v w : Matrix) (s r : Sign) (m l h : Triple) → pos 0 <ℤ kb → kind' ≡ kind → multiple ka l ≡ multiple kb (moment_after kind v (sign_factor s) m) → multiple kb h ≡ multiple kc (moment_after kind' w (sign_factor r) l) →
    multiple ka h ≡ multiple kc (moment_after kind (product w v) (sign_factor (both r s)) m)
moments_on kind kind' ka kb kc v w s r m l h above same e f =
    let n = moment_matrix kind' w (sign_factor r) in
    let x = moment_after kind v (sign_factor s) m in
    multiple_cancel kb (multiple ka h) (multiple kc (moment_after kind (product w v) (sign_factor (both r s)) m)) above
    (multiple_swap kb ka h ∙ ap (multiple ka) f ∙ multiple_swap ka kc (image n l) ∙ ap (multiple kc) (sym (image-multiple n ka l)) ∙ ap (λ (y : Triple). multiple kc (image n y)) e
    ∙ ap (multiple kc) (image-multiple n kb x) ∙ multiple_swap kc kb (image n x)
    ∙ ap (λ (y : Triple). multiple kb (multiple kc y)) (ap (λ (k : MomentKind). moment_after k w (sign_factor r) x) same ∙ moment_after-product kind w v (sign_factor r) (sign_factor s) m ∙ ap (λ (z : ℤ). moment_after kind (product w v) z m) (sym (both_is r s))))

multiples_swap : (k l : ℤ) (g : Matrix) → matrix_multiple k (matrix_multiple l g) ≡ matrix_multiple l (matrix_multiple k g)
multiples_swap k l g = matrix_multiple-twice k l g ∙ ap (λ (x : ℤ). matrix_multiple x g) (by_integers (k ∷ l ∷ []) (var 0 :* var 1) (var 1 :* var 0) refl) ∙ sym (matrix_multiple-twice l k g)

metrics_on : (a b c : Structure) (v w : Matrix) → pos 0 <ℤ b.scale → CarriesMetric a b v → CarriesMetric b c w → CarriesMetric a c (product w v)
metrics_on a b c v w above e f =
    matrix_multiple_cancel b.scale (matrix_multiple a.scale (metric_in (product w v) c.metric)) (matrix_multiple c.scale a.metric) above
    (ap (λ (g : Matrix). matrix_multiple b.scale (matrix_multiple a.scale g)) (metric_in-product w v c.metric)
    ∙ multiples_swap b.scale a.scale (metric_in v (metric_in w c.metric))
    ∙ ap (matrix_multiple a.scale) (sym (metric_in-multiple_metric v b.scale (metric_in w c.metric)) ∙ ap (metric_in v) f ∙ metric_in-multiple_metric v c.scale b.metric)
    ∙ multiples_swap a.scale c.scale (metric_in v b.metric)
    ∙ ap (matrix_multiple c.scale) e
    ∙ multiples_swap c.scale b.scale a.metric)

-- the units of a cell are positive
pub record HasUnits (c : Structure) : Type 0 where
  pub n : pos 0 <ℤ pos c.n
  pub k : pos 0 <ℤ pos c.k
  pub scale : pos 0 <ℤ c.scale

pub composed : (d : ℤ) (a b c : Structure) (v w : Matrix) (t u : Triple) (s r : Sign) → HasUnits b → Sends d a b v t s → Sends d b c w u r → Sends d a c (product w v) (sum_of (image w t) u) (both r s)
composed d a b c v w t u s r units f g = record {
  same_kind = g.same_kind ∙ f.same_kind;
  unimodular = ap (λ (h : ℤ). h *ℤ h) (determinant-product w v) ∙ unit_product (determinant w) (determinant v) g.unimodular f.unimodular;
  metric = metrics_on a b c v w units.scale f.metric g.metric;
  images = λ x p m o. (let i = f.images x p m o in
      let j = g.images i.species i.position i.moment i.occupied in
      record { species = j.species; position = j.position; moment = j.moment; occupied = j.occupied; sent = on x p m i.species i.position i.moment j.species j.position j.moment i.sent j.sent });
  onto = λ y q l o. (let j = g.onto y q l o in
      let i = f.onto j.species j.position j.moment j.occupied in
      record { species = i.species; position = i.position; moment = i.moment; occupied = i.occupied; sent = on i.species i.position i.moment j.species j.position j.moment y q l i.sent j.sent });
}
  where
    on : (x : ℕ) (p m : Triple) (y : ℕ) (q l : Triple) (z : ℕ) (e h : Triple) → IsSentTo d a b v t s x p m y q l → IsSentTo d b c w u r y q l z e h → IsSentTo d a c (product w v) (sum_of (image w t) u) (both r s) x p m z e h
    on x p m y q l z e h i j = record {
      one_name = names_on a b c x y z i.one_name j.one_name;
      position = positions_on d (pos a.n) (pos b.n) (pos c.n) v w p q e t u units.n i.position j.position;
      moment = moments_on a.kind b.kind (pos a.k) (pos b.k) (pos c.k) v w s r m l h units.k f.same_kind i.moment j.moment;
    }

-- ---- the way back
abbrev pub back_translation : Matrix → Triple → Triple
back_translation w t = multiple (negsuc 0) (image (inverse w) t)

positions_back : (d na nb : ℤ) (w : Matrix) (p q t : Triple) → determinant w *ℤ determinant w ≡ pos 1 → multiple (na *ℤ d) q ≡ sum_of (multiple (nb *ℤ d) (image w p)) (multiple (nb *ℤ na) t) →
    multiple (nb *ℤ d) p ≡ sum_of (multiple (na *ℤ d) (image (inverse w) q)) (multiple (na *ℤ nb) (back_translation w t))
positions_back d na nb w p q t one e =
    ap (multiple (nb *ℤ d)) (sym (inverse_undoes w p one)) ∙ around (inverse w) (image w p) ∙ ap (λ (x : Triple). sum_of (image (inverse w) x) (multiple (na *ℤ nb) (back_translation w t))) (sym e) ∙ ap (λ (x : Triple). sum_of x (multiple (na *ℤ nb) (back_translation w t))) (image-multiple (inverse w) (na *ℤ d) q)
  where
    around : (v : Matrix) (y : Triple) → multiple (nb *ℤ d) (image v y) ≡ sum_of (image v (sum_of (multiple (nb *ℤ d) y) (multiple (nb *ℤ na) t))) (multiple (na *ℤ nb) (multiple (negsuc 0) (image v t)))
    around v y =
        let m = matrix_of_variables 0 in
        let x = vector_of_variables 9 in
        let z = vector_of_variables 12 in
        by_triples (entries v ++ coordinates y ++ coordinates t ++ na ∷ nb ∷ d ∷ [])
        (formulas.multiple quoted (var 16 :* var 17) (formulas.image quoted m x))
        (formulas.sum_of quoted (formulas.image quoted m (formulas.sum_of quoted (formulas.multiple quoted (var 16 :* var 17) x) (formulas.multiple quoted (var 16 :* var 15) z))) (formulas.multiple quoted (var 15 :* var 16) (formulas.multiple quoted (con (negsuc 0)) (formulas.image quoted m z)))) refl

moments_back : (kind kind' : MomentKind) (ka kb : ℤ) (w : Matrix) (s : Sign) (m l : Triple) → kind' ≡ kind → determinant w *ℤ determinant w ≡ pos 1 → multiple ka l ≡ multiple kb (moment_after kind w (sign_factor s) m) → multiple kb m ≡ multiple ka (moment_after kind' (inverse w) (sign_factor s) l)
moments_back kind kind' ka kb w s m l same one e =
    let n = moment_matrix kind (inverse w) (sign_factor s) in
    ap (multiple kb) (sym undone) ∙ sym (image-multiple n kb (moment_after kind w (sign_factor s) m)) ∙ ap (image n) (sym e) ∙ image-multiple n ka l ∙ ap (λ (k : MomentKind). multiple ka (moment_after k (inverse w) (sign_factor s) l)) (sym same)
  where
    undone : moment_after kind (inverse w) (sign_factor s) (moment_after kind w (sign_factor s) m) ≡ m
    undone = moment_after-product kind (inverse w) w (sign_factor s) (sign_factor s) m ∙ (λ i. moment_after kind (inverse_before w one i) (sign_squared s i) m) ∙ moment_after-identity kind m

metrics_back : (a b : Structure) (w : Matrix) → determinant w *ℤ determinant w ≡ pos 1 → CarriesMetric a b w → CarriesMetric b a (inverse w)
metrics_back a b w one e =
    sym (metric_in-multiple_metric (inverse w) b.scale a.metric) ∙ ap (metric_in (inverse w)) (sym e) ∙ metric_in-multiple_metric (inverse w) a.scale (metric_in w b.metric)
    ∙ ap (matrix_multiple a.scale) (sym (metric_in-product w (inverse w) b.metric) ∙ ap (λ (v : Matrix). metric_in v b.metric) (inverse_after w one) ∙ metric_in-identity b.metric)

pub sent_back : (d : ℤ) (a b : Structure) (w : Matrix) (t : Triple) (s : Sign) → Sends d a b w t s → Sends d b a (inverse w) (back_translation w t) s
sent_back d a b w t s f = record {
  same_kind = sym f.same_kind;
  unimodular = inverse_unit w f.unimodular;
  metric = metrics_back a b w f.unimodular f.metric;
  images = λ r q l o. (let i = f.onto r q l o in record { species = i.species; position = i.position; moment = i.moment; occupied = i.occupied; sent = back i.species i.position i.moment r q l i.sent });
  onto = λ x p m o. (let i = f.images x p m o in record { species = i.species; position = i.position; moment = i.moment; occupied = i.occupied; sent = back x p m i.species i.position i.moment i.sent });
}
  where
    back : (x : ℕ) (p m : Triple) (r : ℕ) (q l : Triple) → IsSentTo d a b w t s x p m r q l → IsSentTo d b a (inverse w) (back_translation w t) s r q l x p m
    back x p m r q l i = record {
      one_name = names_back a b x r i.one_name;
      position = positions_back d (pos a.n) (pos b.n) w p q t f.unimodular i.position;
      moment = moments_back a.kind b.kind (pos a.k) (pos b.k) w s m l f.same_kind f.unimodular i.moment;
    }
