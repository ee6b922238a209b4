-- Files in memory, and a file that is read piece by piece.
use Rattle.std.proofs.Common.{◌≡◌, refl, sym, ap, ◌∙◌, ℕ, zero, suc, ◌+◌, ◌≤◌, ◌<◌, Bool, true, false, List, [], ◌∷◌, ◌++◌, length, get_or, take, drop, subst, arith, length-append}
use Rattle.std.proofs.Math.Seq.{take-suc}
use Rattle.std.proofs.lemmas.Bool.{false≢true}
use Rattle.std.proofs.lemmas.List.{get_or_default}
use Rattle.std.specs.Prelude.{None, Some, Option, nat_eq, if◌then◌else◌, MatchOption}
use Rattle.std.specs.Cmp.Lexicographic.{pointwise}
use Rattle.std.specs.Io.KnownBytes.{Consumes}
use Rattle.io_edge.specs.InMemory.{MemoryFile, IsPlace, later, bytes_of, bytes_at, left_of}
use Rattle.io_edge.specs.Shelves.{Begins, Leaves}
use Rattle.io_edge.specs.States.{Files}

-- what was taken of a file from its front, and then what is left
pub whole : (files : Option Files) (name : List ℕ) (begun left : Option (List ℕ)) (taken : List ℕ) → Begins files name begun → Consumes begun left taken → Leaves files name taken left
whole None name begun left taken p q = tt
whole (Some files) name None left taken p q = absurd (false≢true p.0)
whole (Some files) name (Some all) None taken p q = absurd q
whole (Some files) name (Some all) (Some left) taken p q = p.1 ∙ ap Some q

-- the last one stays the last where one more is put in front
later_if : (named : Bool) (bytes : List ℕ) (rest first : Option (List ℕ)) → later (if named then Some bytes else rest) first ≡ (if named then Some bytes else later rest first)
later_if true bytes rest first = refl
later_if false bytes rest first = refl

-- the last file of a name, where one more file is put behind the others
pub bytes_of-push : (files : List MemoryFile) (file : MemoryFile) (name : List ℕ) → bytes_of (files ++ file ∷ []) name ≡ (if pointwise nat_eq file.name name then Some file.bytes else bytes_of files name)
bytes_of-push [] file name = refl
bytes_of-push (first ∷ files) file name =
    ap (λ o. later o (if pointwise nat_eq first.name name then Some first.bytes else None)) (bytes_of-push files file name)
    ∙ later_if (pointwise nat_eq file.name name) file.bytes (bytes_of files name) (if pointwise nat_eq first.name name then Some first.bytes else None)

-- a file keeps its bytes where one more is put behind it
pub bytes_at-push : (files : List MemoryFile) (file : MemoryFile) (i : ℕ) → i < length files → bytes_at (files ++ file ∷ []) i ≡ bytes_at files i
bytes_at-push [] file i h = absurd (omega (arith, h))
bytes_at-push (first ∷ files) file zero h = refl
bytes_at-push (first ∷ files) file (suc i) h = bytes_at-push files file i (omega (arith, h))

-- a place stays one, and what is left stays, where one more file is put behind
pub place-push : (picked : Option ℕ) (at : ℕ) (files : List MemoryFile) (file : MemoryFile) → IsPlace picked at files → IsPlace picked at (files ++ file ∷ [])
place-push None at files file p = p
place-push (Some i) at files file p = (omega (arith, p.0, length-append files (file ∷ [])), subst (λ (bytes : List ℕ). at ≤ length bytes) (sym (bytes_at-push files file i p.0)) p.1)

pub left-push : (picked : Option ℕ) (at : ℕ) (files : List MemoryFile) (file : MemoryFile) → IsPlace picked at files → left_of picked at (files ++ file ∷ []) ≡ left_of picked at files
left-push None at files file p = refl
left-push (Some i) at files file p = ap (λ bytes. drop at bytes) (bytes_at-push files file i p.0)

-- its bytes are those of its number
pub bytes_at-file : (files : List MemoryFile) (i : ℕ) (file : MemoryFile) → i < length files → file ≡ get_or files i file → bytes_at files i ≡ file.bytes
bytes_at-file files i file h e = ap (λ (f : MemoryFile). f.bytes) (get_or_default files i (record { name = []; bytes = [] }) file h ∙ sym e)

-- the last file of a name among one more of the files
pub bytes_of-take : (files : List MemoryFile) (name : List ℕ) (i : ℕ) (file : MemoryFile) → i < length files → file ≡ get_or files i file →
    bytes_of (take (i + 1) files) name ≡ (if pointwise nat_eq file.name name then Some file.bytes else bytes_of (take i files) name)
bytes_of-take files name i file h e =
    let one : i + 1 ≡ suc i = omega arith in
    let next : take (i + 1) files ≡ take i files ++ file ∷ [] = ap (λ k. take k files) one ∙ take-suc files i file h ∙ ap (λ f. take i files ++ f ∷ []) (sym e) in
    ap (λ fs. bytes_of fs name) next ∙ bytes_of-push (take i files) file name

-- where it has the name it is the last of it
pub taken_named : (files : List MemoryFile) (name : List ℕ) (i : ℕ) (file : MemoryFile) → i < length files → file ≡ get_or files i file → pointwise nat_eq file.name name ≡ true →
    bytes_of (take (i + 1) files) name ≡ Some (bytes_at files i)
taken_named files name i file h e named =
    bytes_of-take files name i file h e ∙ ap (λ (b : Bool). if b then Some file.bytes else bytes_of (take i files) name) named ∙ ap Some (sym (bytes_at-file files i file h e))

-- where it has another, the last is that of the files before it
pub taken_other : (files : List MemoryFile) (name : List ℕ) (i : ℕ) (file : MemoryFile) → i < length files → file ≡ get_or files i file → pointwise nat_eq file.name name ≡ false →
    bytes_of (take (i + 1) files) name ≡ bytes_of (take i files) name
taken_other files name i file h e named =
    bytes_of-take files name i file h e ∙ ap (λ (b : Bool). if b then Some file.bytes else bytes_of (take i files) name) named

-- what was found so far stays found
pub found_still : (o : Option ℕ) (i : ℕ) (was now : Option (List ℕ)) (files : List MemoryFile) → now ≡ was →
    MatchOption o (was ≡ None) (λ j. (j < i) × (was ≡ Some (bytes_at files j))) → MatchOption o (now ≡ None) (λ j. (j < i + 1) × (now ≡ Some (bytes_at files j)))
found_still None i was now files e h = e ∙ h
found_still (Some j) i was now files e h = (omega (arith, h.0), e ∙ h.1)

-- the files in terms of the name and the bytes that were put
pub replaced : (inside files : List MemoryFile) (file : MemoryFile) (name bytes other : List ℕ) → inside ≡ files → file.name ≡ name → file.bytes ≡ bytes →
    bytes_of (inside ++ file ∷ []) other ≡ (if pointwise nat_eq name other then Some bytes else bytes_of files other)
replaced inside files file name bytes other e n b =
    bytes_of-push inside file other
    ∙ ap (λ (w : List ℕ). if pointwise nat_eq w other then Some file.bytes else bytes_of inside other) n
    ∙ ap (λ (w : List ℕ). if pointwise nat_eq name other then Some w else bytes_of inside other) b
    ∙ ap (λ (w : List MemoryFile). if pointwise nat_eq name other then Some bytes else bytes_of w other) e
