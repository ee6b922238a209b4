-- The translation part of a token, in units of 1/12 [Hal81; ITVB A1.4.2.3].
--   plus u v                 the sum modulo 1
--   letter_translation b     what a letter stands for: a, b, c and n are halves, u, v, w and d are quarters
--   letters_translation bs   the sum of these letters, each as often as it stands
--   screw_translation r t    the screw digit t behind the order N is t / N along the axis
use Rattle.std.specs.Prelude.{ℕ, ◌+◌, ◌*◌, ◌/◌, ◌%◌, ◌==◌, List, if◌then◌else◌}
use Rattle.std.specs.List.{fold}
use Rattle.std.specs.declared.option.Option.{Option}
use Rattle.std.specs.declared.option.Option.TheVariants.{Some, None}
use Rattle.matrix3.specs.declared.vector.Vec3.{Vec3}
use Rattle.hall_symbol.specs.declared.symbol.Axis.{Axis}
use Rattle.hall_symbol.specs.declared.symbol.Axis.TheVariants.{X, Y, Z}
use Rattle.hall_symbol.specs.declared.symbol.Rotation.{Rotation}
use Rattle.hall_symbol.specs.Rotations.{order_of, axis_of}

abbrev pub parts : ℕ → ℕ → ℕ → Vec3 ℕ
parts a b c = record { x = a; y = b; z = c }

-- the sum modulo 1
abbrev pub plus : Vec3 ℕ → Vec3 ℕ → Vec3 ℕ
plus u v = parts ((u.x + v.x) % 12) ((u.y + v.y) % 12) ((u.z + v.z) % 12)

-- a, b, c, n are halves; u, v, w, d are quarters
abbrev pub letter_translation : ℕ → Vec3 ℕ
letter_translation b =
    if b == 97 then parts 6 0 0 else
    if b == 98 then parts 0 6 0 else
    if b == 99 then parts 0 0 6 else
    if b == 110 then parts 6 6 6 else
    if b == 117 then parts 3 0 0 else
    if b == 118 then parts 0 3 0 else
    if b == 119 then parts 0 0 3 else
    if b == 100 then parts 3 3 3 else parts 0 0 0

-- a letter adds as often as it stands
abbrev pub letters_translation : List ℕ → Vec3 ℕ
letters_translation letters = fold (λ v b. plus v (letter_translation b)) (parts 0 0 0) letters

-- so many twelfths along x, y or z
abbrev pub along : Option Axis → ℕ → Vec3 ℕ
along None a = parts 0 0 0
along (Some X) a = parts a 0 0
along (Some Y) a = parts 0 a 0
along (Some Z) a = parts 0 0 a

-- the screw digit t behind the order N is t / N along the axis
abbrev pub screw_translation : Rotation → ℕ → Vec3 ℕ
screw_translation rotation screw = along (axis_of rotation) (screw * (12 / order_of rotation))
