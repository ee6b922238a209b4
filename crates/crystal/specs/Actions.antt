-- How an isometry acts on the positions and the moments of a cell.
--   Acting                  an isometry beside the unit 1/n of positions and the kind of the moments that it acts on
--   ActsOn c a              so the isometry a acts on the crystal c: it is one of its metric tensor
--   HoldsMoments k w l r    l is the matrix by which w acts on moments of the kind k, and r that by which it acts with time reversal
use Rattle.std.specs.Prelude.{◌≡◌, ℕ, pos, negsuc}
use Rattle.crystal_spec.specs.declared.MomentKind.{MomentKind}
use Rattle.crystal_spec.specs.Matrices.{Matrix}
use Rattle.crystal_spec.specs.Moments.{moment_matrix}
use Rattle.crystal_spec.specs.Crystals.{Structure, KeepsMetric}
use Rattle.matrix3.specs.Bounds.{EntriesAtMost}

pub record Acting : Type 0 where
  pub modulus : ℕ
  pub kind : MomentKind
  pub matrix : Matrix

-- the isometry is one of the crystal's metric tensor, and acts on its positions and its kind of moments
pub record ActsOn (c : Structure) (a : Acting) : Type 0 where
  pub modulus : a.modulus ≡ c.n
  pub kind : a.kind ≡ c.kind
  pub isometry : KeepsMetric c.metric a.matrix

-- both matrices of moments
pub record HoldsMoments (kind : MomentKind) (w l r : Matrix) : Type 0 where
  pub same : l ≡ moment_matrix kind w (pos 1)
  pub same_entries : EntriesAtMost 150000000 l
  pub reversed : r ≡ moment_matrix kind w (negsuc 0)
  pub reversed_entries : EntriesAtMost 150000000 r
