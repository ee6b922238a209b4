-- The text of what is found of a cell, as JSON: one object without spaces, its members in the order of their keys,
-- and LF at the end. The members are texts, numbers, a list of texts, and lists of numbers.
--   entries_words q                    the entries of a matrix row by row, with single spaces between
--   metric_words c                     a·a, b·b, c·c, b·c, a·c and a·b of a cell in lowest terms, with single spaces between
--   operation_items l                  the operations of a list in order, each as its four parts
--   orbit_items orbits                 the numbers from 1 of the first alike atoms
--   site_items orbits                  how many operations the site-symmetry groups have
--   dataset index back c l order kind orbits       the object, of a cell c in another basis with this index and this Q
--   dataset_text index back c l order kind orbits  its text
-- The keys are our own; JSON is that of [RFC8259].
use Rattle.std.specs.Prelude.{◌+◌, ℕ, List, [], ◌∷◌, ◌++◌, map, drop, length, codes, unsigned_abs}
use Rattle.crystal_spec.specs.Matrices.{Matrix}
use Rattle.crystal_spec.specs.Crystals.{Structure}
use Rattle.crystal_spec.specs.Operations.{Operation}
use Rattle.op_group.specs.Lists.{OperationList}
use Rattle.mag_type.specs.declared.classification.Kind.{Kind}
use Rattle.site_orbits.specs.Entries.{AtomOrbit}
use Rattle.plain_text.specs.NumberText.{numbers_text}
use Rattle.cell_print.specs.CellFileText.{scalar_products}
use Rattle.serde_json.specs.Data.{Data, number, unsigned, string, array, object, Items, member, no_members}
use Rattle.serde_json.specs.View.{items_of}
use Rattle.serde_json.specs.Written.{compact_text}
use Rattle.operation_text.specs.EntryText.{entries_text}
use Rattle.operation_text.specs.OperationText.{parts_text}

-- the entries row by row, with no space before the first
abbrev pub entries_words : Matrix → List ℕ
entries_words q = drop 1 (entries_text q)

-- the scalar products of the axes in lowest terms, with no space before the first
abbrev pub metric_words : Structure → List ℕ
metric_words c = drop 1 (numbers_text (unsigned_abs c.scale) (scalar_products c.metric))

-- each operation as a text, with no LF
abbrev pub operation_data : ℕ → Operation → Data
operation_data n o = string (parts_text n o)

-- the operations of a list, in order
abbrev pub operation_items : OperationList → Items
operation_items l = items_of (map (operation_data l.n) l.operations)

-- the number from 1 of the first alike atom
abbrev pub orbit_data : AtomOrbit → Data
orbit_data o = number (unsigned (o.first + 1))

-- atom by atom
abbrev pub orbit_items : List AtomOrbit → Items
orbit_items orbits = items_of (map orbit_data orbits)

-- how many operations the site-symmetry group has
abbrev pub site_data : AtomOrbit → Data
site_data o = number (unsigned (length o.site.operations))

-- atom by atom
abbrev pub site_items : List AtomOrbit → Items
site_items orbits = items_of (map site_data orbits)

-- Q, the index and the metric tensor of the primitive cell; its operations and how many they are; the cell that it was made
-- of: how many operations that has, and atom by atom the first alike atom and the count of the site-symmetry group; and the
-- magnetic type with the orders of the family group and of the maximal space subgroup
abbrev pub dataset : ℕ → Matrix → Structure → OperationList → ℕ → Kind → List AtomOrbit → Data
dataset index back c l cell_order kind orbits = object
    (member (codes "back") (string (entries_words back))
    (member (codes "cell_order") (number (unsigned cell_order))
    (member (codes "family_order") (number (unsigned kind.family))
    (member (codes "index") (number (unsigned index))
    (member (codes "metric") (string (metric_words c))
    (member (codes "operations") (array (operation_items l))
    (member (codes "orbits") (array (orbit_items orbits))
    (member (codes "order") (number (unsigned (length l.operations)))
    (member (codes "sites") (array (site_items orbits))
    (member (codes "type") (number (unsigned kind.kind))
    (member (codes "unprimed_order") (number (unsigned kind.unprimed))
    no_members)))))))))))

-- the text of the object without spaces, and LF
unfoldable pub dataset_text : ℕ → Matrix → Structure → OperationList → ℕ → Kind → List AtomOrbit → List ℕ
dataset_text index back c l cell_order kind orbits = compact_text (dataset index back c l cell_order kind orbits) ++ 10 ∷ []
