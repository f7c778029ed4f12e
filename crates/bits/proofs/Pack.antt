-- The laws of packing, once for every layout.
use mathlib.Core.Path.{◌≡◌, refl, ◌∙◌, ap}
use mathlib.Core.List.{List, [], ◌∷◌}
use Prim.Native.Nat.{ℕ, suc, ◌+◌, ◌*◌, ◌/◌, ◌%◌, ◌^◌, ◌≤◌, ◌<◌}
use native.Mathlib.Omega.{arith}
use native.Mathlib.Nat.{add_comm, mul_comm, add-mul-div_left, mul-add-mod_self_left, mod-eq_of_lt, mod-lt, div-eq_of_lt, div-lt_iff_lt-mul, mod-add-div}
use lib.Pow.{pow_pos, pow-add}
use Rattle.bits.specs.Pack.{pack, unpack, Fit, width}

low : (m v p : ℕ) → v < m → (v + m * p) % m ≡ v
low m v p l = ap (λ (x : ℕ). x % m) (add_comm v (m * p)) ∙ mul-add-mod_self_left m p v ∙ mod-eq_of_lt l

high : (m v p : ℕ) → v < m → (v + m * p) / m ≡ p
high m v p l = omega (arith, add-mul-div_left v p {y = m} (omega arith), div-eq_of_lt l)

-- what was packed is unpacked
pub unpack_pack : (ws vs : List ℕ) → Fit ws vs → unpack ws (pack ws vs) ≡ vs
unpack_pack [] [] f = refl
unpack_pack (w ∷ ws) (v ∷ vs) f =
    let lo : (v + 2 ^ w * pack ws vs) % 2 ^ w ≡ v = low (2 ^ w) v (pack ws vs) f.0 in
    let hi : (v + 2 ^ w * pack ws vs) / 2 ^ w ≡ pack ws vs = high (2 ^ w) v (pack ws vs) f.0 in
    rw (lo, hi, unpack_pack ws vs f.1)
unpack_pack [] (v ∷ vs) f = elim f [ ]
unpack_pack (w ∷ ws) [] f = elim f [ ]

-- what was unpacked is packed again
pub pack_unpack : (ws : List ℕ) (x : ℕ) → x < 2 ^ width ws → pack ws (unpack ws x) ≡ x
pack_unpack [] x l = omega arith
pack_unpack (w ∷ ws) x l =
    let small : x / 2 ^ w < 2 ^ width ws = (div-lt_iff_lt-mul (pow_pos w)).1 (rw (pow-add 2 w (width ws), mul_comm (2 ^ w) (2 ^ width ws)) at l) in
    rw (pack_unpack ws (x / 2 ^ w) small) (mod-add-div x (2 ^ w))

-- what was unpacked fits
pub unpack_fit : (ws : List ℕ) (x : ℕ) → Fit ws (unpack ws x)
unpack_fit [] x = tt
unpack_fit (w ∷ ws) x = (mod-lt x (pow_pos w), unpack_fit ws (x / 2 ^ w))

-- values that fit pack below the power of the whole width
pub pack_lt : (ws vs : List ℕ) → Fit ws vs → pack ws vs < 2 ^ width ws
pack_lt [] [] f = omega arith
pack_lt [] (v ∷ vs) f = elim f [ ]
pack_lt (w ∷ ws) [] f = elim f [ ]
pack_lt (w ∷ ws) (v ∷ vs) f = rw (pow-add 2 w (width ws)) (below (2 ^ w) v (pack ws vs) (2 ^ width ws) f.0 (pack_lt ws vs f.1))
  where
    below : (m v p q : ℕ) → v < m → p < q → v + m * p < m * q
    below m v p q l k =
        let e : m * suc p ≤ m * q = native.Mathlib.Nat.mul-le-mul_left m k in
        omega (arith, native.Mathlib.Nat.mul-suc m p)
