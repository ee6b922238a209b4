-- The order of matrices, and one isometry, at a few values.
use Rattle.std.proofs.Common.{◌≡◌, refl, ℤ, pos, negsuc}
use Rattle.std.specs.declared.cmp.Ordering.TheVariants.{Less, Equal, Greater}
use Rattle.crystal_spec.specs.Matrices.{Triple, Matrix, identity}
use Rattle.lattice_iso.specs.Isometries.{matrix_order}
use Rattle.lattice_iso.specs.Columns.{candidate, scalar_product}
use Rattle.matrix3.specs.Matrices.{of_columns}

abbrev at : ℤ → ℤ → ℤ → Triple
at x y z = record { x = x; y = y; z = z }

-- rows (0, 1, 0), (0, 0, 1) and (1, 0, 0)
abbrev cycle : Matrix
cycle = of_columns (at (pos 0) (pos 0) (pos 1)) (at (pos 1) (pos 0) (pos 0)) (at (pos 0) (pos 1) (pos 0))

-- rows (0, 0, 1), (1, 0, 0) and (0, 1, 0)
abbrev cycle_back : Matrix
cycle_back = of_columns (at (pos 0) (pos 1) (pos 0)) (at (pos 0) (pos 0) (pos 1)) (at (pos 1) (pos 0) (pos 0))

-- the first row decides, where the first columns would say the contrary
order : (matrix_order cycle_back cycle ≡ Less) × (matrix_order cycle cycle_back ≡ Greater) × (matrix_order cycle identity ≡ Less) × (matrix_order identity identity ≡ Equal)
unfolding matrix_order
order = (refl, refl, refl, refl)

-- b·c of the axes themselves, and the squared length of a + b in a hexagonal lattice of a·b = -1
products : (scalar_product cycle (at (pos 0) (pos 1) (pos 0)) (at (pos 0) (pos 0) (pos 1)) ≡ pos 1) × (scalar_product (of_columns (at (pos 2) (negsuc 0) (pos 0)) (at (negsuc 0) (pos 2) (pos 0)) (at (pos 0) (pos 0) (pos 5))) (at (pos 1) (pos 1) (pos 0)) (at (pos 1) (pos 1) (pos 0)) ≡ pos 2)
products = (refl, refl)

-- the candidates begin with (-1, -1, -1), then (-1, -1, 0), and number 13 is 0
first_candidates : (candidate 0 ≡ at (negsuc 0) (negsuc 0) (negsuc 0)) × (candidate 1 ≡ at (negsuc 0) (negsuc 0) (pos 0)) × (candidate 13 ≡ at (pos 0) (pos 0) (pos 0))
first_candidates = (refl, refl, refl)
