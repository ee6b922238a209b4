-- The site that is filled, in the basis of the primitive cell.
use Rattle.std.proofs.Common.{◌≡◌, sym, ap, subst, ◌∙◌, true, ℕ, suc, ◌<◌, List, [], length}
use Rattle.std.specs.Prelude.{pos, get_or, slice_get, Some, Option, IfSome}
use Rattle.std.proofs.lemmas.Option.{slice_get-get_or}
use Rattle.crystal_spec.specs.Matrices.{Triple, Matrix, image}
use Rattle.crystal_spec.specs.Crystals.{Atom, Structure}
use Rattle.crystal_spec.specs.Operations.{Operation, ListsAll}
use Rattle.crystal_spec.specs.Moments.{IsOfKind}
use Rattle.op_group.specs.Lists.{OperationList}
use Rattle.prim_cell.specs.Primitives.{PrimitiveCell}
use Rattle.site_orbits.specs.Orbits.{ListsSite}
use Rattle.site_orbits.specs.Entries.{AtomOrbit, HaveOrbits}
use Rattle.moment_space.specs.Projectors.{IsAllowed}
use Rattle.moment_space.specs.Filled.{IsSiteAt, IsFilledAt, IsKeptBy}
use Rattle.moments_text.specs.FilledText.{filled_text}
use Rattle.command_words.specs.declared.filling.Filling.{Filling}
use Rattle.answers.specs.Findings.{IsFound}
use Rattle.answers.specs.FillReports.{FilledAtom, IsAllowedThere, IsFillReport, IsRefusedThere, moment_of}

-- ---- the site-symmetry group of an atom, among the orbits of all
no_orbit : AtomOrbit
no_orbit = record { first = 0; size = 0; site = record { n = 0; operations = [] } }

no_atom : Atom
no_atom = record { species = 0; position = record { x = pos 0; y = pos 0; z = pos 0 }; moment = record { x = pos 0; y = pos 0; z = pos 0 } }

module _ (c : Structure) (r : Matrix) (b : Structure) (os : List Operation) (i : ℕ) (orbits : List AtomOrbit) (list : OperationList) (have : HaveOrbits c r b os orbits) (few : i < length orbits) (told : IfSome (slice_get orbits i) (λ (o : AtomOrbit). list ≡ o.site)) where
  here : slice_get orbits i ≡ Some (get_or orbits i no_orbit)
  here = slice_get-get_or orbits i no_orbit few

  is_site : list ≡ (get_or orbits i no_orbit).site
  is_site = subst (λ (t : Option AtomOrbit). IfSome t (λ (o : AtomOrbit). list ≡ o.site)) here told

  pub site_n : i < length c.atoms → list.n ≡ b.n
  site_n below = ap (λ (l : OperationList). l.n) is_site ∙ (have i _ here (get_or c.atoms i no_atom) (slice_get-get_or c.atoms i no_atom below)).same_n

  pub site_there : IsSiteAt c r b os i list.operations
  site_there a at = subst (λ (l : OperationList). ListsSite b.n os (image r a.position) l.operations) (sym is_site) (have i _ here a at).site

-- ---- the cell that is filled
module _ (c : Structure) (p : PrimitiveCell) (list : OperationList) (f : Filling) (atom : ℕ) (site : List Operation) (found : IsFound c true p list) (number : f.atom ≡ suc atom) (there : atom < length c.atoms) (is_site : IsSiteAt c p.back p.cell list.operations atom site) where
  pub filled_atom : FilledAtom c p.back f
  filled_atom = record {
    primitive = found.cell.primitive;
    niggli = found.cell.niggli;
    operations = list.operations;
    all = subst (λ (t : Structure). ListsAll t list.operations) found.cell.cell found.group;
    atom = atom;
    number = number;
    there = there;
    site = site;
    is_site = subst (λ (t : Structure). IsSiteAt c p.back t list.operations atom site) found.cell.cell is_site;
  }

  pub refused : (IsAllowedThere c f site → ⊥) → IsRefusedThere c p.back f
  unfolding filled_atom
  refused not = record { at = filled_atom; refused = not }

  pub fill_report : (filled : Structure) (m : Triple) (bytes : List ℕ) → m ≡ moment_of c f → IsOfKind c.kind m → IsAllowed c.kind site m → IsFilledAt c p.back p.cell list.operations atom m filled → IsKeptBy list.operations filled → bytes ≡ filled_text p.back filled → IsFillReport c p.back f bytes
  unfolding filled_atom
  fill_report filled m bytes same of_kind allowed is_filled kept lines = record {
    at = filled_atom;
    allowed = (subst (λ (t : Triple). IsOfKind c.kind t) same of_kind, subst (λ (t : Triple). IsAllowed c.kind site t) same allowed);
    filled = filled;
    is_filled = subst (λ (t : Structure). IsFilledAt c p.back t list.operations atom (moment_of c f) filled) found.cell.cell (subst (λ (t : Triple). IsFilledAt c p.back p.cell list.operations atom t filled) same is_filled);
    kept = kept;
    lines = lines;
  }
