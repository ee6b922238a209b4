-- Pages of lists, and their lines.
use Rattle.std.proofs.Common.{◌≡◌, refl, sym, ap, ◌∙◌, ℕ, ◌+◌, List, [], ◌∷◌, ◌++◌, take, drop, map, append_assoc}
use Rattle.std.proofs.lemmas.List.{take-map, drop-map, drop-drop}
use Rattle.std.proofs.Math.Seq.{take-add}
use Rattle.std.specs.declared.option.Option.{Option}
use Rattle.std.specs.declared.option.Option.TheVariants.{Some, None}
use Rattle.crystal_spec.specs.Operations.{Operation}
use Rattle.operation_text.specs.OperationText.{operation_text, lines_text}
use Rattle.operation_text.specs.Pages.{page, PagesResume}

-- a page of the images is the image of the page
pub page-map : {X Y : Type 0} (f : X → Y) (skip : ℕ) (most : Option ℕ) (xs : List X) → map f (page skip most xs) ≡ page skip most (map f xs)
page-map f skip None xs = sym (drop-map f skip xs)
page-map f skip (Some most) xs = sym (take-map f most (drop skip xs)) ∙ ap (λ ys. take most ys) (sym (drop-map f skip xs))

-- the lines of one list after another are their lines one after another
pub lines-append : (n : ℕ) (os ps : List Operation) → lines_text n (os ++ ps) ≡ lines_text n os ++ lines_text n ps
lines-append n [] ps = refl
lines-append n (o ∷ os) ps = ap (λ l. operation_text n o ++ l) (lines-append n os ps) ∙ sym (append_assoc (operation_text n o) (lines_text n os) (lines_text n ps))

-- a page goes on where the one before it ends
pub pages_resume_law : PagesResume
pages_resume_law l skip most more =
    let rest = drop skip l.operations in
    sym (lines-append l.n (take most rest) (take more (drop (skip + most) l.operations)))
    ∙ ap (λ os. lines_text l.n (take most rest ++ take more os)) (sym (drop-drop most skip l.operations))
    ∙ ap (λ os. lines_text l.n os) (sym (take-add most more rest))
