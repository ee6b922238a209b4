-- Multiples of matrices, and metric tensors in another basis.
--   matrix_multiple k a   k times a matrix
--   metric_in p g         the metric tensor g in the basis whose vectors are the columns of p: pᵀ g p
use Rattle.crystal_spec.specs.Matrices.{Matrix, product, transposed}
pub use Rattle.crystal_spec.specs.Matrices.{matrix_multiple}

-- the metric tensor g in the basis whose vectors are the columns of p
abbrev pub metric_in : Matrix → Matrix → Matrix
metric_in p g = product (transposed p) (product g p)
