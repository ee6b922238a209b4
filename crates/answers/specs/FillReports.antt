-- What `fill` tells of a crystal and a moment for one of its atoms.
--   moment_of c f            the moment, in units of 1/k
--   HasNoAtom c f            no atom of c has this number, counted from 1
--   FilledAtom c q f         the atom and its site, with the primitive cell of c in the basis of q
--   IsAllowedThere c f site  the site allows the moment, which is of the kind of those of c
--   IsFillReport c q f bytes the cell that is filled
--   IsRefusedThere c q f     the site does not allow the moment
--   IsFillingReport c f kept bytes   the report, for the basis that it speaks of
-- Our own.
use Rattle.std.specs.Prelude.{◌≡◌, ◌⊎◌, ◌<◌, ℕ, suc, pos, List, length}
use Rattle.crystal_spec.specs.Matrices.{Triple, Matrix, multiple}
use Rattle.crystal_spec.specs.Moments.{IsOfKind}
use Rattle.crystal_spec.specs.Crystals.{Structure}
use Rattle.crystal_spec.specs.Operations.{Operation, ListsAll}
use Rattle.lattice_spec.specs.Niggli.{IsNiggli}
use Rattle.basis_spec.specs.Bases.{cell_in_basis, IsPrimitiveIn}
use Rattle.moment_space.specs.Projectors.{IsAllowed}
use Rattle.moment_space.specs.Filled.{IsSiteAt, IsFilledAt, IsKeptBy}
use Rattle.moments_text.specs.FilledText.{filled_text}
use Rattle.command_words.specs.declared.filling.Filling.{Filling}
use Rattle.report_basis.specs.declared.Kept.{Kept}
use Rattle.report_basis.specs.declared.Kept.TheVariants.{NoBase, Back, Two}

-- k times the three components
abbrev pub moment_of : Structure → Filling → Triple
moment_of c f = multiple (pos c.k) (record { x = f.a; y = f.b; z = f.c })

abbrev pub HasNoAtom : Structure → Filling → Type 0
HasNoAtom c f = (f.atom ≡ 0) ⊎ (length c.atoms < f.atom)

-- Q takes coordinates to those in a Niggli-reduced basis of all translations of the crystal; the operations are all symmetry
-- operations there, and the site is the site-symmetry group of the atom of this number, from 0
pub record FilledAtom (c : Structure) (q : Matrix) (f : Filling) : Type 0 where
  pub primitive : IsPrimitiveIn c q
  pub niggli : IsNiggli (cell_in_basis c q).metric
  pub operations : List Operation
  pub all : ListsAll (cell_in_basis c q) operations
  pub atom : ℕ
  pub number : f.atom ≡ suc atom
  pub there : atom < length c.atoms
  pub site : List Operation
  pub is_site : IsSiteAt c q (cell_in_basis c q) operations atom site

-- each operation of the site carries the moment to itself; a scalar has no second and third component
abbrev pub IsAllowedThere : Structure → Filling → List Operation → Type 0
IsAllowedThere c f site = IsOfKind c.kind (moment_of c f) × IsAllowed c.kind site (moment_of c f)

-- The bytes are the text of the primitive cell with the moment at the position of the atom, and with the moments to which the
-- operations carry it where they carry that position. Each of them keeps the filled cell.
pub record IsFillReport (c : Structure) (q : Matrix) (f : Filling) (bytes : List ℕ) : Type 0 where
  pub at : FilledAtom c q f
  pub allowed : IsAllowedThere c f at.site
  pub filled : Structure
  pub is_filled : IsFilledAt c q (cell_in_basis c q) at.operations at.atom (moment_of c f) filled
  pub kept : IsKeptBy at.operations filled
  pub lines : bytes ≡ filled_text q filled

pub record IsRefusedThere (c : Structure) (q : Matrix) (f : Filling) : Type 0 where
  pub at : FilledAtom c q f
  pub refused : IsAllowedThere c f at.site → ⊥

-- the report speaks of the basis of q
abbrev pub IsFillingReport : Structure → Filling → Kept → List ℕ → Type 0
IsFillingReport c f NoBase bytes = ⊥
IsFillingReport c f (Back q) bytes = IsFillReport c q f bytes
IsFillingReport c f (Two q q') bytes = ⊥
