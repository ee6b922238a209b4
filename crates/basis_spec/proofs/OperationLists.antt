-- The list of all symmetry operations in one basis and in another: what is carried from that of the primitive cell is
-- exactly that of the cell, and maps with fractions add none.
use Rattle.std.proofs.Common.{◌≡◌, ℕ, Bool, true, false, ℤ, pos, ◌<ℤ◌, List, sym, subst}
use Rattle.std.specs.Prelude.{◌↔◌}
use Rattle.lists.specs.Increasing.{IsIncreasing, IsMember}
use Rattle.crystal_spec.specs.declared.Sign.{Sign}
use Rattle.crystal_spec.specs.declared.Sign.TheVariants.{Same}
use Rattle.crystal_spec.specs.Matrices.{Triple, Matrix, image, multiple}
use Rattle.crystal_spec.specs.Crystals.{Structure, Occupied, Keeps, IsPositive}
use Rattle.positions.specs.Positions.{modulo}
use Rattle.crystal_spec.specs.Operations.{IsWithinCell, Operation, sign_factor, compare_of, IsSymmetryOperation, ListsAll, ListsAllSame}
use Rattle.crystal_spec.specs.Cells.{DiffersByCells}
use Rattle.basis_spec.specs.Translations.{IsPrimitive}
use Rattle.basis_spec.specs.Bases.{SameCrystal}
use Rattle.basis_spec.specs.Carrying.{KeepsAny, IsCarried, IsListed}
use Rattle.positions.proofs.Residues.{modulo_away, modulo_within}
use Rattle.basis_spec.proofs.OperationBases.{cells_translation, keeps_moved, keeps_there, keeps_here}
use Rattle.basis_spec.proofs.PrimitiveCell.{differs_sym, cells_alone}
use Rattle.basis_spec.proofs.WholeMaps.{whole}
use Rattle.crystal_spec.proofs.Isometries.{sign_squared}

-- with time reversal all operations are wanted, without it those of sign +1
abbrev pub IsWanted : Bool → Operation → Type 0
IsWanted true o = Unit {0}
IsWanted false o = o.sign ≡ Same

-- the strictly increasing list of exactly the symmetry operations that are wanted
pub record ListsWanted (time : Bool) (c : Structure) (os : List Operation) : Type 0 where
  pub increasing : IsIncreasing compare_of os
  pub exact : (o : Operation) → IsMember o os ↔ (IsSymmetryOperation c o × IsWanted time o)

-- with time reversal it is the list of all symmetry operations
pub wanted_of_all : (c : Structure) (os : List Operation) → ListsAll c os → ListsWanted true c os
wanted_of_all c os a = record { increasing = a.increasing; exact = λ o. ((λ m. ((a.exact o).0 m, tt)), (λ h. (a.exact o).1 h.0)) }

-- and the list of all symmetry operations is it
pub all_of_wanted : (c : Structure) (os : List Operation) → ListsWanted true c os → ListsAll c os
all_of_wanted c os a = record { increasing = a.increasing; exact = λ o. ((λ m. ((a.exact o).0 m).0), (λ h. (a.exact o).1 (h, tt))) }

-- without time reversal it is the list of those of sign +1
pub wanted_of_same : (c : Structure) (os : List Operation) → ListsAllSame c os → ListsWanted false c os
wanted_of_same c os a = record { increasing = a.increasing; exact = a.exact }

-- and the list of those of sign +1 is it
pub same_of_wanted : (c : Structure) (os : List Operation) → ListsWanted false c os → ListsAllSame c os
same_of_wanted c os a = record { increasing = a.increasing; exact = a.exact }

-- translations that differ by whole cells keep the crystal alike
pub keeps_differs : (c : Structure) (w : Matrix) (t u : Triple) (sign : ℤ) → DiffersByCells c.n u t → Keeps c w t sign → Keeps c w u sign
keeps_differs c w t u sign d k = subst (λ (v : Triple). Keeps c w v sign) (sym d.is) (keeps_moved c w t (multiple (pos c.n) d.cells) sign (cells_translation c d.cells) k)

module _ (c c' : Structure) (r : Matrix) (same : SameCrystal c c' r) (primitive : IsPrimitive c') (some : pos 0 <ℤ pos c.n) (positive : IsPositive c.metric) (s : ℕ) (p m : Triple) (occupied : Occupied c s p m) where
  some' : pos 0 <ℤ pos c'.n
  some' = subst (λ (n : ℕ). pos 0 <ℤ pos n) (sym same.n) some

  wanted_carried : (time : Bool) (o : Operation) (v : Matrix) (t : Triple) → IsWanted time o → IsWanted time (record { matrix = v; translation = t; sign = o.sign })
  wanted_carried true o v t h = tt
  wanted_carried false o v t h = h

  wanted_back : (time : Bool) (o : Operation) (v : Matrix) (t : Triple) → IsWanted time (record { matrix = v; translation = t; sign = o.sign }) → IsWanted time o
  wanted_back true o v t h = tt
  wanted_back false o v t h = h

  -- what is carried from the list of the primitive cell is exactly what the list of the cell has
  pub carried_exactly : (time : Bool) (operations : List Operation) → ListsWanted time c' operations → (o : Operation) → IsCarried c'.n r operations o ↔ (IsSymmetryOperation c o × IsWanted time o)
  carried_exactly time operations a o = (down, up)
    where
      down : IsCarried c'.n r operations o → IsSymmetryOperation c o × IsWanted time o
      down k =
          let is = (a.exact (record { matrix = k.matrix; translation = modulo c'.n (image r o.translation); sign = o.sign })).0 k.of_list in (
            record {
              translation = subst (λ (n : ℕ). IsWithinCell n o.translation) same.n k.translation;
              keeps = keeps_here c c' r same o.matrix o.translation (sign_factor o.sign) (record {
                matrix = k.matrix;
                turned = k.turned;
                keeps = keeps_differs c' k.matrix (modulo c'.n (image r o.translation)) (image r o.translation) (sign_factor o.sign) (modulo_away c'.n (image r o.translation) some') is.0.keeps;
              });
            },
            wanted_back time o k.matrix (modulo c'.n (image r o.translation)) is.1,
          )

      up : IsSymmetryOperation c o × IsWanted time o → IsCarried c'.n r operations o
      up h =
          let k = keeps_there c c' r same (cells_alone c' some' primitive) some s p m occupied positive o.matrix o.translation (sign_factor o.sign) (sign_squared o.sign) h.0.keeps in
          record {
            translation = subst (λ (n : ℕ). IsWithinCell n o.translation) (sym same.n) h.0.translation;
            matrix = k.matrix;
            turned = k.turned;
            of_list = (a.exact (record { matrix = k.matrix; translation = modulo c'.n (image r o.translation); sign = o.sign })).1 (
              record {
                translation = modulo_within c'.n (image r o.translation) some';
                keeps = keeps_differs c' k.matrix (image r o.translation) (modulo c'.n (image r o.translation)) (sign_factor o.sign) (differs_sym (modulo_away c'.n (image r o.translation) some')) k.keeps;
              },
              wanted_carried time o k.matrix (modulo c'.n (image r o.translation)) h.1,
            );
          }

-- in a primitive cell nothing is missed by asking for integers
pub nothing_missed : (c : Structure) (operations : List Operation) → ListsWanted true c operations → IsPrimitive c → pos 0 <ℤ pos c.n → IsPositive c.metric → (s : ℕ) (p m : Triple) → Occupied c s p m →
    (b : Matrix) (translation : Triple) (d : ℕ) (sign : Sign) → KeepsAny c b translation d (sign_factor sign) → IsListed c.n operations b translation d sign
nothing_missed c operations a primitive some positive s p m o b translation d sign k =
    let w = whole c b translation d (sign_factor sign) k s p m o some (cells_alone c some primitive) positive (sign_squared sign) in
    record {
      matrix = w.matrix;
      whole_translation = w.whole_translation;
      matrix_is = w.matrix_is;
      translation_is = w.translation_is;
      of_list = (a.exact (record { matrix = w.matrix; translation = modulo c.n w.whole_translation; sign = sign })).1 (
        record {
          translation = modulo_within c.n w.whole_translation some;
          keeps = keeps_differs c w.matrix w.whole_translation (modulo c.n w.whole_translation) (sign_factor sign) (differs_sym (modulo_away c.n w.whole_translation some)) w.keeps;
        },
        tt,
      );
    }
