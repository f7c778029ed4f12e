-- The start of a resource's line in numbers of eight bytes is its text.
use mathlib.Core.Path.{◌≡◌, refl, ap, ◌∙◌}
use mathlib.Core.Bool.{Bool, ◌&&◌}
use mathlib.Core.List.{List, ◌++◌, append_assoc}
use Prim.Native.Nat.{ℕ, ◌+◌, ◌*◌, ◌/◌, ◌≤◌, ◌<◌}
use native.Mathlib.Omega.{arith}
use lib.Dec.{T, leb, leb→le}
use lib.ListN.{length, take, length-append}
use Rattle.text.specs.Text.{codes, dec, Wrote}
use Rattle.stores.specs.Engine.{bytes_of}
use Rattle.stores.proofs.Laws.{same, same_equal, over, joined, bytes_length, take_bytes}
use Rattle.resource.specs.declared.Resource.{Resource}
use Rattle.resource.specs.declared.Resource.TheVariants.{Single, Joined}
use Rattle.resource.specs.declared.Size.TheVariants.{S26, S52, S106, S242, S484, S996, S2x996}
use Rattle.resource.specs.declared.Pairing.TheVariants.{P106And26, P484And242, P996And484, P3x996, P2x996And484, P3x996And484}
use Rattle.resource.specs.Names.{number_of}
use Rattle.resource.proofs.Test.{both_left, both_right, every_below, every_between}
use Rattle.resource_line.specs.ResourceLine.{name_text, ru_name, ru_head}
use Rattle.resource_line.specs.Engine.{class_name, class_of, key_of, first_of, last_of, last_place, middle_of, counts_text, start_text, named_text}

-- each name is in the list
name_class : (r : Resource) → class_name (class_of r) ≡ name_text r
unfolding class_name class_of name_text
name_class (Single S26 i) = refl
name_class (Single S52 i) = refl
name_class (Single S106 i) = refl
name_class (Single S242 i) = refl
name_class (Single S484 i) = refl
name_class (Single S996 i) = refl
name_class (Single S2x996 i) = refl
name_class (Joined P106And26 i) = refl
name_class (Joined P484And242 i) = refl
name_class (Joined P996And484 i) = refl
name_class (Joined P3x996 i) = refl
name_class (Joined P2x996And484 i) = refl
name_class (Joined P3x996And484 i) = refl

-- ---- the key
short_test : ℕ → Bool
short_test k = leb (last_place k) 8 && same (take (last_place k) (bytes_of 8 (first_of k)) ++ bytes_of 8 (last_of k)) (key_of k)

short_pass : (k : ℕ) → k < 9 → T (short_test k)
unfolding short_test last_place first_of last_of key_of class_name
short_pass k l = every_below short_test 9 tt k l

pub short_place : (k : ℕ) → k < 9 → last_place k ≤ 8
unfolding short_test
short_place k l = leb→le (last_place k) 8 (both_left (leb (last_place k) 8) _ (short_pass k l))

pub short_key : (k : ℕ) → k < 9 → take (last_place k) (bytes_of 8 (first_of k)) ++ bytes_of 8 (last_of k) ≡ key_of k
unfolding short_test
short_key k l = same_equal _ _ (both_right (leb (last_place k) 8) _ (short_pass k l))

long_test : ℕ → Bool
long_test k = leb 8 (last_place k) && same (take (last_place k) (bytes_of 8 (first_of k) ++ bytes_of 8 (middle_of k)) ++ bytes_of 8 (last_of k)) (key_of k)

long_pass : (k : ℕ) → 9 ≤ k → k < 13 → T (long_test k)
unfolding long_test last_place first_of middle_of last_of key_of class_name
long_pass k h l = every_between long_test 9 13 k tt h l

pub long_place : (k : ℕ) → 9 ≤ k → k < 13 → 8 ≤ last_place k
unfolding long_test
long_place k h l = leb→le 8 (last_place k) (both_left (leb 8 (last_place k)) _ (long_pass k h l))

pub long_key : (k : ℕ) → 9 ≤ k → k < 13
    → take (last_place k) (bytes_of 8 (first_of k) ++ bytes_of 8 (middle_of k)) ++ bytes_of 8 (last_of k) ≡ key_of k
unfolding long_test
long_key k h l = same_equal _ _ (both_right (leb 8 (last_place k)) _ (long_pass k h l))

-- ---- the counts
segment_test : ℕ → Bool
segment_test g = same (bytes_of 8 (4428008638689648688 + g)) (dec g ++ codes " users=")

users_test : ℕ → Bool
users_test u = same (bytes_of 8 (4427994383626018864 + u)) (dec u ++ codes " tones=")

segment_bytes : (g : ℕ) → g < 10 → bytes_of 8 (4428008638689648688 + g) ≡ dec g ++ codes " users="
unfolding segment_test dec
segment_bytes g l = same_equal _ _ (every_below segment_test 10 tt g l)

users_bytes : (u : ℕ) → u < 10 → bytes_of 8 (4427994383626018864 + u) ≡ dec u ++ codes " tones="
unfolding users_test dec
users_bytes u l = same_equal _ _ (every_below users_test 10 tt u l)

pub counts_bytes : (g u : ℕ) → g < 10 → u < 10
    → bytes_of 8 4428285715518285171 ++ (bytes_of 8 (4428008638689648688 + g) ++ bytes_of 8 (4427994383626018864 + u)) ≡ counts_text g u
unfolding counts_text
counts_bytes g u l h =
    ap (λ (t : List ℕ). codes "segment=" ++ (t ++ bytes_of 8 (4427994383626018864 + u))) (segment_bytes g l)
    ∙ ap (λ (t : List ℕ). codes "segment=" ++ ((dec g ++ codes " users=") ++ t)) (users_bytes u h)
    ∙ ap (λ (t : List ℕ). codes "segment=" ++ t) (append_assoc (dec g) (codes " users=") (dec u ++ codes " tones="))

-- ---- the whole start
nested : (a n b i s m g u v t : List ℕ)
    → (a ++ (n ++ b)) ++ ((i ++ s) ++ (m ++ (g ++ (u ++ (v ++ t))))) ≡ ((((a ++ n) ++ (b ++ i)) ++ ((s ++ m) ++ g)) ++ (u ++ v)) ++ t
nested a n b i s m g u v t = simp append_assoc refl

pub start_text_lem : (g u : ℕ) (r : Resource) → start_text (class_of r) (number_of r) g u ≡ ru_head g r u ++ codes " tones="
unfolding start_text key_of counts_text ru_head ru_name
start_text_lem g u r =
    rw (name_class r)
    (nested (codes "ru=") (name_text r) (codes " index=") (dec (number_of r)) (codes " ") (codes "segment=") (dec g) (codes " users=") (dec u)
    (codes " tones="))

-- ---- by a name and an index in numbers
pub named_key : (name len : ℕ) → bytes_of (3 + len) (4027762 + 16777216 * name) ≡ codes "ru=" ++ bytes_of len name
named_key name len = joined 3 len 4027762 name (omega arith)

nest : (a n b i m : List ℕ) → (a ++ n) ++ (b ++ (i ++ m)) ≡ (a ++ (n ++ b)) ++ (i ++ m)
nest a n b i m = simp append_assoc refl

pub named_stored : {d e f g h : List ℕ} {at r s t o : ℕ} (name len index x u : ℕ) → len ≤ 5 → index / 16777216 ≤ 4
    → Wrote d at (bytes_of 8 (4027762 + 16777216 * name)) e r → Wrote e (at + (3 + len)) (bytes_of 8 17302350451337504) f s
    → Wrote f (at + (3 + len) + 7) (bytes_of 4 index) g t → Wrote g (at + (3 + len) + 7 + index / 16777216) (counts_text x u) h o
    → 8 ≤ length (counts_text x u) → Wrote d at (named_text name len index x u) h o
unfolding named_text
named_stored {d} {e} {f} {g} {h} {at} {r} {s} {t} {o} name len index x u l k p q w z few =
    let n = index / 16777216 in
    let m = bytes_length 4 index in
    let a = over (bytes_of 4 index) (counts_text x u) n (omega (arith, m, k)) (omega (arith, m, few)) w z in
    let a2 = rw (take_bytes n 4 index k) at a in
    let i = bytes_length 8 17302350451337504 in
    let c = length-append (bytes_of n index) (counts_text x u) in
    let b = over (bytes_of 8 17302350451337504) (bytes_of n index ++ counts_text x u) 7 (omega (arith, i)) (omega (arith, i, c, few)) q a2 in
    let b2 : Wrote e (at + (3 + len)) (codes " index=" ++ (bytes_of n index ++ counts_text x u)) h o = b in
    let j = bytes_length 8 (4027762 + 16777216 * name) in
    let v = length-append (codes " index=") (bytes_of n index ++ counts_text x u) in
    let y = over (bytes_of 8 (4027762 + 16777216 * name)) (codes " index=" ++ (bytes_of n index ++ counts_text x u)) (3 + len)
    (omega (arith, j, l)) (omega (arith, j, v, c, few)) p b2 in
    rw (
      take_bytes (3 + len) 8 (4027762 + 16777216 * name) (omega (arith, l)),
      named_key name len,
      nest (codes "ru=") (bytes_of len name) (codes " index=") (bytes_of n index) (counts_text x u),
    ) at y
