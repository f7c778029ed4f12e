-- The laws of texts and of writers into a lent buffer.
use mathlib.Core.Path.{◌≡◌, refl, sym, ap, ◌∙◌}
use mathlib.Core.Bool.{Bool, true, false, cond}
use mathlib.Core.List.{List, [], ◌∷◌, ◌++◌, append_assoc, append-nil}
use Prim.Native.Nat.{ℕ, zero, suc, ◌+◌, ◌-◌, ◌*◌, ◌/◌, ◌%◌, ◌^◌, ◌≤◌, ◌<◌, zero-le}
use native.Mathlib.Nat.{suc-mul, zero-add, add-zero, add-suc, suc-add, add_assoc, div-lt_iff_lt-mul, pow-suc}
use native.Mathlib.Numerals.{add-one, sub-one}
use native.Mathlib.Omega.{arith}
use lib.Dec.{ltb}
use lib.IntN.{pos, ◌-ℤ◌}
use lib.ListN.{length, take, drop, get_or, set, length-append}
use lib.Seq.{set_out, sets, length-sets, sets-eq, take-suc, take_all, length-take-le}
use borrow.Author.Tests.{lt-ltb, le-ltb, ltb-true}
use Rattle.text.specs.Text.{codes, decs, dec, signed, upto, Wrote}

-- ---- writing
sets_append : (d : List ℕ) (at : ℕ) (t u : List ℕ) → sets (sets d at t) (at + length t) u ≡ sets d at (t ++ u)
sets_append d at [] u = rw add-zero
sets_append d at (x ∷ t) u = rw (add-suc, ← suc-add) (sets_append (set d at x) (suc at) t u)

-- nothing written
pub nothing : (d : List ℕ) (at : ℕ) → Wrote d at [] d at
nothing d at = record { bytes = refl; next = sym (add-zero at) }

-- one text after another
pub after : {d e f : List ℕ} {at r s : ℕ} {t u : List ℕ} → Wrote d at t e r → Wrote e r u f s → Wrote d at (t ++ u) f s
after {d} {e} {f} {at} {r} {s} {t} {u} p q = record {
  bytes = q.bytes ∙ ap (λ (l : List ℕ). sets l r u) p.bytes ∙ ap (λ (k : ℕ). sets (sets d at t) k u) p.next ∙ sets_append d at t u;
  next = q.next ∙ ap (λ (k : ℕ). k + length u) p.next ∙ add_assoc at (length t) (length u) ∙ ap (λ (k : ℕ). at + k) (sym (length-append t u));
}

-- the buffer keeps its length
pub kept : {d e t : List ℕ} {at r : ℕ} → Wrote d at t e r → length e ≡ length d
kept {d} {e} {t} {at} w = ap length w.bytes ∙ length-sets d at t

-- where the text fits, the buffer is what it was with the text from place at
pub spliced : {d e t : List ℕ} {at r : ℕ} → at + length t ≤ length d → Wrote d at t e r → e ≡ take at d ++ t ++ drop (at + length t) d
spliced {d} {e} {t} {at} h w = w.bytes ∙ sets-eq t d at h

-- at the front
pub front : {d e t : List ℕ} {r : ℕ} → length t ≤ length d → Wrote d 0 t e r → e ≡ t ++ drop (length t) d
front {d} {e} {t} h w = spliced (rw zero-add h) w ∙ ap (λ (k : ℕ). t ++ drop k d) (zero-add (length t))

pub count : {d e t : List ℕ} {r : ℕ} → Wrote d 0 t e r → r ≡ length t
count {t = t} w = w.next ∙ zero-add (length t)

-- past the buffer's end nothing is written
past_sets : (d : List ℕ) (at : ℕ) (t : List ℕ) → length d ≤ at → sets d at t ≡ d
past_sets d at [] l = refl
past_sets d at (x ∷ t) l = rw (set_out d at x l) (past_sets d (suc at) t (omega arith))

pub past : (d : List ℕ) (at : ℕ) (t : List ℕ) → length d ≤ at → Wrote d at t d (at + length t)
past d at t l = record { bytes = sym (past_sets d at t l); next = refl }

-- into no room nothing is written
dry_sets : (at : ℕ) (t : List ℕ) → ◌≡◌ {A = List ℕ} (sets [] at t) []
dry_sets at [] = refl
dry_sets at (x ∷ t) = dry_sets (suc at) t

pub dry : {e t : List ℕ} {at n : ℕ} → Wrote [] at t e n → e ≡ []
dry {t = t} {at = at} w = w.bytes ∙ dry_sets at t

-- ---- a text written byte by byte
pub more : {d e f : List ℕ} {at o r : ℕ} (s : List ℕ) (j : ℕ) → j < length s → Wrote d at (take j s) e o → Wrote e o (get_or s j 0 ∷ []) f r
    → Wrote d at (take (j + 1) s) f r
more s j l p q = rw (add-one, take-suc s j 0) (after p q)

pub whole : {d e : List ℕ} {at r : ℕ} (s : List ℕ) (j : ℕ) → length s ≤ j → Wrote d at (take j s) e r → Wrote d at s e r
whole s j l p = rw (take_all j s) at p

pub reach : {d e : List ℕ} {at r : ℕ} (s : List ℕ) (j : ℕ) → j ≤ length s → Wrote d at (take j s) e r → r ≡ at + j
reach s j l p = rw (length-take-le j s l) at p.next

-- ---- decimals
pub digit_one : {d f : List ℕ} {at r : ℕ} (k n : ℕ) → (k ≡ 0 → ⊥) → n < 10 → Wrote d at ((48 + n % 10) ∷ []) f r → Wrote d at (decs k n) f r
digit_one zero n h l q = absurd (h refl)
digit_one (suc k) n h l q = rw (lt-ltb n 10 l) q

pub digit_more : {d e f : List ℕ} {at o r : ℕ} (k n : ℕ) → (k ≡ 0 → ⊥) → 10 ≤ n → Wrote d at (decs (k - 1) (n / 10)) e o
    → Wrote e o ((48 + n % 10) ∷ []) f r → Wrote d at (decs k n) f r
digit_more zero n h l p q = absurd (h refl)
digit_more (suc k) n h l p q = rw (le-ltb n 10 l) (after (rw sub-one at p) q)

-- a digit that is the whole of its number
pub digit_alone : {d f : List ℕ} {at r : ℕ} (k n : ℕ) → n < 10 → Wrote d at ((48 + n) ∷ []) f r → Wrote d at (decs (suc k) n) f r
digit_alone k n l q = let e : n % 10 ≡ n = omega arith in rw (lt-ltb n 10 l, e) q

one_more : (b : Bool) (x : List ℕ) (y k : ℕ) → length x ≤ k → length (cond b [] x ++ (y ∷ [])) ≤ suc k
one_more true x y k h = omega arith
one_more false x y k h = rw length-append (omega arith)

-- no number has more digits than are asked for
pub decs_short : (k n : ℕ) → length (decs k n) ≤ k
decs_short zero n = zero-le
decs_short (suc k) n = one_more (ltb n 10) (decs k (n / 10)) _ k (decs_short k (n / 10))

pub dec_short : (n : ℕ) → length (dec n) ≤ 20
unfolding dec
dec_short n = decs_short 20 n

-- one digit more than a tenth has
decs_next : (k n : ℕ) → 10 ≤ n → length (decs (suc k) n) ≡ length (decs k (n / 10)) + 1
decs_next k n l = rw (le-ltb n 10 l) (length-append (decs k (n / 10)) ((48 + n % 10) ∷ []))

decs_one : (k n : ℕ) → n < 10 → length (decs (suc k) n) ≡ 1
decs_one k n l = rw (lt-ltb n 10 l)

pub one_digit : (n : ℕ) → n < 10 → 1 ≡ length (decs 20 n)
one_digit n l = sym (decs_one 19 n l)

pub two_digits : (n : ℕ) → 10 ≤ n → n < 100 → 2 ≡ length (decs 20 n)
two_digits n l h = sym (decs_next 19 n l ∙ ap (λ (x : ℕ). x + 1) (decs_one 18 (n / 10) (omega arith)))

pub three_digits : (n : ℕ) → 100 ≤ n → n < 1000 → 3 ≡ length (decs 20 n)
three_digits n l h =
    sym
    (decs_next 19 n (omega arith)
    ∙ ap (λ (x : ℕ). x + 1) (decs_next 18 (n / 10) (omega arith) ∙ ap (λ (x : ℕ). x + 1) (decs_one 17 (n / 10 / 10) (omega arith))))

pub four_digits : (n : ℕ) → 1000 ≤ n → n < 10000 → 4 ≡ length (decs 20 n)
four_digits n l h =
    sym (
    decs_next 19 n (omega arith)
    ∙ ap (λ (x : ℕ). x + 1) (decs_next 18 (n / 10) (omega arith)
    ∙ ap (λ (x : ℕ). x + 1) (decs_next 17 (n / 10 / 10) (omega arith)
    ∙ ap (λ (x : ℕ). x + 1) (decs_one 16 (n / 10 / 10 / 10) (omega arith))))
    )

-- a number below 10 ^ (k + 1) has at most k + 1 digits
decs_fit : (f k n : ℕ) → n < 10 ^ suc k → length (decs f n) ≤ suc k
decs_fit zero k n l = zero-le
decs_fit (suc f) zero n l = rw (lt-ltb n 10 (omega arith)) (omega arith)
decs_fit (suc f) (suc k) n l =
    one_more (ltb n 10) (decs f (n / 10)) _ (suc k)
    (decs_fit f k (n / 10) ((div-lt_iff_lt-mul {k = 10} (omega arith)).1 (rw (pow-suc 10 (suc k)) at l)))

-- so that more may be asked for
decs_same : (k n : ℕ) → n < 10 ^ suc k → decs (suc k) n ≡ decs (suc (suc k)) n
decs_same zero n l = rw (lt-ltb n 10 (omega arith))
decs_same (suc k) n l =
    ap (λ (t : List ℕ). cond (ltb n 10) [] t ++ ((48 + n % 10) ∷ []))
    (decs_same k (n / 10) ((div-lt_iff_lt-mul {k = 10} (omega arith)).1 (rw (pow-suc 10 (suc k)) at l)))

-- a digit more
pub dec_more : {d e f : List ℕ} {at o r : ℕ} (n : ℕ) → 10 ≤ n → n < 10 ^ 20 → Wrote d at (dec (n / 10)) e o → Wrote e o ((48 + n % 10) ∷ []) f r
    → Wrote d at (dec n) f r
unfolding dec
dec_more n l h p q =
    digit_more 20 n (λ (e : 20 ≡ 0). omega arith) l (rw (sym (decs_same 18 (n / 10) ((div-lt_iff_lt-mul {k = 10} (omega arith)).1 h))) at p) q

pub dec_fit : (k n : ℕ) → n < 10 ^ suc k → length (dec n) ≤ suc k
unfolding dec
dec_fit k n l = decs_fit 20 k n l

-- a decimal begins with a digit
decs_digit : (k n : ℕ) (t : List ℕ) → get_or (decs (suc k) n ++ t) 0 0 < 58
decs_digit zero n t = go (ltb n 10)
  where
    go : (b : Bool) → get_or ((cond b [] [] ++ ((48 + n % 10) ∷ [])) ++ t) 0 0 < 58
    go true = omega arith
    go false = omega arith
decs_digit (suc k) n t = go (ltb n 10) (decs_digit k (n / 10) (((48 + n % 10) ∷ []) ++ t))
  where
    go : (b : Bool) → get_or (decs (suc k) (n / 10) ++ (((48 + n % 10) ∷ []) ++ t)) 0 0 < 58
        → get_or ((cond b [] (decs (suc k) (n / 10)) ++ ((48 + n % 10) ∷ [])) ++ t) 0 0 < 58
    go true h = omega arith
    go false h = rw (append_assoc (decs (suc k) (n / 10)) ((48 + n % 10) ∷ []) t) h

pub dec_digit : (n : ℕ) (t : List ℕ) → get_or (dec n ++ t) 0 0 < 58
unfolding dec
dec_digit n t = decs_digit 19 n t

-- ---- signed decimals: u - z of two naturals
pub signed_low : (u z : ℕ) → u < z → signed (pos u -ℤ pos z) ≡ codes "-" ++ dec (z - u)
unfolding signed
signed_low u zero l = absurd (omega arith)
signed_low u (suc z) l = rw (lt-ltb u (suc z) l) (ap (λ (n : ℕ). codes "-" ++ dec n) (omega arith))

pub signed_high : (u z : ℕ) → z ≤ u → signed (pos u -ℤ pos z) ≡ dec (u - z)
unfolding signed
signed_high u zero l = ap dec (omega arith)
signed_high u (suc z) l = rw (le-ltb u (suc z) l)

-- ---- items
pub upto_none : (f : ℕ → List ℕ) → upto f 0 ≡ []
unfolding upto
upto_none f = refl

pub upto_more : (f : ℕ → List ℕ) (n : ℕ) → upto f (n + 1) ≡ upto f n ++ f n
unfolding upto
upto_more f n = rw add-one

-- one item more
pub item : {d e f : List ℕ} {at o r : ℕ} (g : ℕ → List ℕ) (n : ℕ) → Wrote d at (upto g n) e o → Wrote e o (g n) f r → Wrote d at (upto g (n + 1)) f r
item g n p q = rw upto_more (after p q)

-- no item yet
pub no_item : (g : ℕ → List ℕ) (d : List ℕ) (at : ℕ) → Wrote d at (upto g 0) d at
no_item g d at = rw upto_none (nothing d at)

-- a bound for each item bounds the whole
pub upto_short : (g : ℕ → List ℕ) (m n : ℕ) → ((i : ℕ) → i < n → length (g i) ≤ m) → length (upto g n) ≤ n * m
unfolding upto
upto_short g m zero h = zero-le
upto_short g m (suc n) h =
    let i = upto_short g m n (λ i l. h i (omega arith)) in
    let j = h n (omega arith) in
    rw (length-append, suc-mul n m) (omega arith)

-- only the first n items count
pub upto_cong : (f g : ℕ → List ℕ) (n : ℕ) → ((i : ℕ) → i < n → f i ≡ g i) → upto f n ≡ upto g n
unfolding upto
upto_cong f g zero h = refl
upto_cong f g (suc n) h = rw (upto_cong f g n (λ i l. h i (omega arith)), h n (omega arith))

-- the first m items, then n more
pub upto_append : (f : ℕ → List ℕ) (m n : ℕ) → upto f (m + n) ≡ upto f m ++ upto (λ i. f (m + i)) n
unfolding upto
upto_append f m zero = rw (add-zero m, append-nil)
upto_append f m (suc n) = rw (add-suc m n, upto_append f m n, append_assoc)

-- ---- a decimal says its number: what digits say after a
abbrev pub says : ℕ → List ℕ → ℕ
says a [] = a
says a (x ∷ l) = says (10 * a + (x - 48)) l

says_last : (a : ℕ) (l : List ℕ) (x : ℕ) → says a (l ++ (x ∷ [])) ≡ 10 * says a l + (x - 48)
says_last a [] x = refl
says_last a (y ∷ l) x = says_last (10 * a + (y - 48)) l x

decs_say : (k n : ℕ) → n < 10 ^ k → says 0 (decs k n) ≡ n
decs_say zero n l = omega arith
decs_say (suc k) n l =
    go (ltb n 10) refl (decs_say k (n / 10) ((div-lt_iff_lt-mul {k = 10} (omega arith)).1 (rw (pow-suc 10 k) at l)))
  where
    go : (b : Bool) → ltb n 10 ≡ b → says 0 (decs k (n / 10)) ≡ n / 10
        → says 0 (cond b [] (decs k (n / 10)) ++ ((48 + n % 10) ∷ [])) ≡ n
    go true e i = let h = ltb-true n 10 e in omega arith
    go false e i = says_last 0 (decs k (n / 10)) (48 + n % 10) ∙ omega arith

pub dec_says : (n : ℕ) → n < 10 ^ 20 → says 0 (dec n) ≡ n
unfolding dec
dec_says n l = decs_say 20 n l

-- no two numbers have one text
pub dec_injective : (m n : ℕ) → m < 10 ^ 20 → n < 10 ^ 20 → dec m ≡ dec n → m ≡ n
dec_injective m n h k e = sym (dec_says m h) ∙ ap (says 0) e ∙ dec_says n k
