-- What follows from the answers of calls.
use Rattle.std.proofs.Common.{◌≡◌, refl, sym, subst, ◌∙◌, Bool, true, false, Option, Some, None, Result, Ok, Err}
use Rattle.std.specs.Prelude.{IfOk, IfSome, IfNone}
use Rattle.std.specs.Bool.{OnTrue, OnFalse}

pub some_then : {A : Type 0} {P Q : A → Type 0} (r : Option A) → ((v : A) → P v → Q v) → IfSome r P → IfSome r Q
some_then (Some v) f h = f v h
some_then None f h = tt

pub none_then : {A : Type 0} {P Q : Type 0} (r : Option A) → (P → Q) → IfNone r P → IfNone r Q
none_then (Some v) f h = tt
none_then None f h = f h

pub none_of : {A : Type 0} {P : Type 0} (r : Option A) → P → IfNone r P
none_of (Some v) h = tt
none_of None h = h

pub on_true : {P : Type 0} (b : Bool) → (b ≡ true → P) → OnTrue b P
on_true true h = h refl
on_true false h = tt

pub on_false : {P : Type 0} (b : Bool) → (b ≡ false → P) → OnFalse b P
on_false true h = tt
on_false false h = h refl

pub of_true : {P : Type 0} (b : Bool) → OnTrue b P → b ≡ true → P
of_true true h e = h
of_true false h e = absurd (cc e)

pub of_false : {P : Type 0} (b : Bool) → OnFalse b P → b ≡ false → P
of_false true h e = absurd (cc e)
of_false false h e = h

pub true_not_false : (b : Bool) → b ≡ true → b ≡ false → ⊥
true_not_false b e f = cc (sym e ∙ f)

pub of_none : {A P : Type 0} (r : Option A) → IfNone r P → r ≡ None → P
of_none (Some v) h e = absurd (cc e)
of_none None h e = h

pub of_some : {A : Type 0} (P : A → Type 0) (r : Option A) (x : A) → IfSome r P → r ≡ Some x → P x
of_some P r x h e = subst (λ w. IfSome w P) e h

pub ok_some_then : {A E : Type 0} {P Q : A → Type 0} (r : Result (Option A) E) → ((v : A) → P v → Q v) → IfOk r (λ o. IfSome o P) → IfOk r (λ o. IfSome o Q)
ok_some_then (Ok (Some v)) f h = f v h
ok_some_then (Ok None) f h = tt
ok_some_then (Err e) f h = tt

pub ok_none_then : {A E : Type 0} {P Q : Type 0} (r : Result (Option A) E) → (P → Q) → IfOk r (λ o. IfNone o P) → IfOk r (λ o. IfNone o Q)
ok_none_then (Ok (Some v)) f h = tt
ok_none_then (Ok None) f h = f h
ok_none_then (Err e) f h = tt

pub ok_both_then : {A E : Type 0} {P R Q : A → Type 0} (r : Result (Option A) E) → ((v : A) → P v → R v → Q v) → IfOk r (λ o. IfSome o P) → IfOk r (λ o. IfSome o R) → IfOk r (λ o. IfSome o Q)
ok_both_then (Ok (Some v)) f h k = f v h k
ok_both_then (Ok None) f h k = tt
ok_both_then (Err e) f h k = tt
