-- What the four words behind the name of `fill` ask for.
use Rattle.std.proofs.Common.{◌≡◌, refl, ap, ◌∙◌, ℕ, ℤ, List, ◌∷◌, drop, slice_get, Some}
use Rattle.std.specs.declared.result.Result.{Result}
use Rattle.std.specs.declared.result.Result.TheVariants.{Ok, Err}
use Rattle.lists.proofs.Walks.{drop_at}
use Rattle.command_words.specs.declared.command.Command.{Command}
use Rattle.command_words.specs.declared.command.Command.TheVariants.{Fill}
use Rattle.command_words.specs.declared.command.UsageFault.{UsageFault}
use Rattle.command_words.specs.Commands.{count_of, component_of, filling}

-- the number of the atom and the components, once they are read, or the first fault
abbrev pub filling_of : Result ℕ UsageFault → Result ℤ UsageFault → Result ℤ UsageFault → Result ℤ UsageFault → Result Command UsageFault
filling_of (Ok atom) (Ok a) (Ok b) (Ok c) = Ok (Fill (record { atom = atom; a = a; b = b; c = c }))
filling_of (Ok atom) (Ok a) (Ok b) (Err fault) = Err fault
filling_of (Ok atom) (Ok a) (Err fault) c = Err fault
filling_of (Ok atom) (Err fault) b c = Err fault
filling_of (Err fault) a b c = Err fault

filling_made : (i : Result ℕ UsageFault) (a b c : Result ℤ UsageFault) → (elim i [
  | Ok atom ↦ elim a [
    | Ok x ↦ elim b [
      | Ok y ↦ elim c [
        | Ok z ↦ Ok (Fill (record { atom = atom; a = x; b = y; c = z }))
        | Err fault ↦ Err fault
      ]
      | Err fault ↦ Err fault
    ]
    | Err fault ↦ Err fault
  ]
  | Err fault ↦ Err fault
]) ≡ filling_of i a b c
filling_made (Err fault) a b c = refl
filling_made (Ok atom) (Err fault) b c = refl
filling_made (Ok atom) (Ok x) (Err fault) c = refl
filling_made (Ok atom) (Ok x) (Ok y) (Err fault) = refl
filling_made (Ok atom) (Ok x) (Ok y) (Ok z) = refl

filling_read : (i a b c : List ℕ) (later : List (List ℕ)) (atom : Result ℕ UsageFault) (x y z : Result ℤ UsageFault) → count_of i ≡ atom → component_of a ≡ x → component_of b ≡ y → component_of c ≡ z → filling (i ∷ a ∷ b ∷ c ∷ later) ≡ filling_of atom x y z
filling_read i a b c later atom x y z p q r s =
    filling_made (count_of i) (component_of a) (component_of b) (component_of c)
    ∙ ap (λ (t : Result ℕ UsageFault). filling_of t (component_of a) (component_of b) (component_of c)) p
    ∙ ap (λ (t : Result ℤ UsageFault). filling_of atom t (component_of b) (component_of c)) q
    ∙ ap (λ (t : Result ℤ UsageFault). filling_of atom x t (component_of c)) r
    ∙ ap (filling_of atom x y) s

-- the four words stand behind the name
pub filling_at : (words : List (List ℕ)) (i a b c : List ℕ) (atom : Result ℕ UsageFault) (x y z : Result ℤ UsageFault) → slice_get words 1 ≡ Some i → slice_get words 2 ≡ Some a → slice_get words 3 ≡ Some b → slice_get words 4 ≡ Some c →
    count_of i ≡ atom → component_of a ≡ x → component_of b ≡ y → component_of c ≡ z → filling (drop 1 words) ≡ filling_of atom x y z
filling_at words i a b c atom x y z first second third fourth p q r s =
    let behind : drop 1 words ≡ i ∷ a ∷ b ∷ c ∷ drop 5 words =
    drop_at words 1 i first ∙ ap (λ (l : List (List ℕ)). i ∷ l) (drop_at words 2 a second ∙ ap (λ (l : List (List ℕ)). a ∷ l) (drop_at words 3 b third ∙ ap (λ (l : List (List ℕ)). b ∷ l) (drop_at words 4 c fourth))) in
    ap filling behind ∙ filling_read i a b c (drop 5 words) atom x y z p q r s
