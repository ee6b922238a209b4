-- Finite products of operations modulo whole translations.
--   identity_product, product_then, generator_product    what is a product
--   product_within                   a product's translation part is within one cell
use Rattle.std.proofs.Common.{◌≡◌, List, [], ◌∷◌, ◌++◌, refl, sym, ap, ap₂, subst, ◌∙◌, arith}
use Rattle.lists.specs.Increasing.{IsMember}
use Rattle.crystal_spec.specs.Operations.{Operation, IsWithinCell}
use Rattle.op_group.specs.Composition.{identity_operation}
use Rattle.op_group.proofs.Composing.{origin_within}
use Rattle.hall_symbol.specs.Compositions.{then}
use Rattle.hall_symbol.proofs.Compositions.{then_within, then_assoc, identity_then, then_identity}
use Rattle.hall_text.specs.Products.{product_of, AreAmong, IsProduct}

pub product_of_within : (os : List Operation) → IsWithinCell 12 (product_of os).translation
product_of_within [] = origin_within 12 (omega arith)
product_of_within (o ∷ os) = then_within o (product_of os)

pub product_within : (gens : List Operation) (o : Operation) → IsProduct gens o → IsWithinCell 12 o.translation
product_within gens o p = subst (λ (q : Operation). IsWithinCell 12 q.translation) (sym p.is) (product_of_within p.factors)

product-append : (fs gs : List Operation) → then (product_of fs) (product_of gs) ≡ product_of (fs ++ gs)
product-append [] gs = identity_then (product_of gs) (product_of_within gs)
product-append (f ∷ fs) gs = sym (then_assoc f (product_of fs) (product_of gs)) ∙ ap (then f) (product-append fs gs)

among-append : (gens fs gs : List Operation) → AreAmong gens fs → AreAmong gens gs → AreAmong gens (fs ++ gs)
among-append gens [] gs a b = b
among-append gens (f ∷ fs) gs a b = (a.0, among-append gens fs gs a.1 b)

module _ (gens : List Operation) where
  pub identity_product : IsProduct gens identity_operation
  identity_product = record { factors = []; among = tt; is = refl }

  pub product_then : (p q : Operation) → IsProduct gens p → IsProduct gens q → IsProduct gens (then p q)
  product_then p q a b = record {
    factors = a.factors ++ b.factors;
    among = among-append gens a.factors b.factors a.among b.among;
    is = ap₂ then a.is b.is ∙ product-append a.factors b.factors;
  }

  pub generator_product : (g : Operation) → IsMember g gens → IsWithinCell 12 g.translation → IsProduct gens g
  generator_product g m w = record { factors = g ∷ []; among = (m, tt); is = sym (then_identity g w) }
