-- What the line of a User field says, and how long its STA-ID is.
use mathlib.Core.Path.{◌≡◌, refl, sym, ap, subst, ◌∙◌}
use mathlib.Core.Logic.{◌≢◌}
use mathlib.Core.Bool.{Bool, true, false, not, cond}
use mathlib.Core.List.{List, [], ◌∷◌, ◌++◌, append_assoc}
use Prim.Native.Nat.{ℕ, ◌+◌, ◌-◌, ◌*◌, ◌/◌, ◌^◌, ◌≤◌, ◌<◌}
use native.Mathlib.Omega.{arith}
use lib.Dec.{eqb}
use lib.ListN.{length, take, get_or, set}
use lib.Seq.{take-append_seam}
use borrow.Author.Tests.{eq-eqb, ne_eqb, eqb-true, eqb-false}
use Rattle.text.specs.Text.{codes, dec, keyed, line, Wrote}
use Rattle.text.proofs.Laws.{dec_fit, dec_digit}
use Rattle.stores.specs.Engine.{bytes_of, lead_of, digits_of}
use Rattle.stores.proofs.Laws.{joined, lead_most, digits_bytes, same, same_equal, bytes_length, bytes_append, over}
use Rattle.resource.proofs.Test.{every_below}
use Rattle.lines.specs.Lines.{assigned, id_text, sta_line, head_text}
use Rattle.lines.specs.Engine.{id_word, Ended, Tailed, counts_text}

-- none is as long as a number of four digits
pub id_short : (id : ℕ) → id < 10000 → length (id_text id) ≤ 4
unfolding id_text
id_short id l = go (assigned id)
  where
    go : (t : Bool) → length (cond t (dec id) (codes "none")) ≤ 4
    go true = dec_fit 3 id (omega arith)
    go false = omega arith

-- ---- the line of a User field
pub number_line : (id r : ℕ) → id ≢ 2046 → sta_line id r ≡ keyed (codes "sta=") id ++ line (codes " resource=") r
unfolding sta_line id_text
number_line id r n = rw (ne_eqb id 2046 n)

pub none_line : (id r : ℕ) → id ≡ 2046 → sta_line id r ≡ line (codes "sta=none resource=") r
unfolding sta_line id_text
none_line id r e = rw (eq-eqb id 2046 e)

-- where it is not a number's first digit that follows the key, the resource is nobody's
pub only_none : (id r : ℕ) (rest : List ℕ) → sta_line id r ≡ codes "sta=none " ++ rest → id ≡ 2046
unfolding sta_line id_text
only_none id r rest e = go (eqb id 2046) refl
  where
    go : (t : Bool) → eqb id 2046 ≡ t → id ≡ 2046
    go true f = eqb-true id 2046 f
    go false f =
        let d : get_or (dec id ++ line (codes " resource=") r) 0 0 ≡ 110 =
        ap (λ (t : List ℕ). get_or t 4 0) (sym (number_line id r (eqb-false id 2046 f)) ∙ e) in
        omega (arith, dec_digit id (line (codes " resource=") r))

-- ---- the line in three numbers, the second over the end of the first
id_bytes : (id : ℕ) → id < 10000 → bytes_of (4 - lead_of id) (id_word id) ≡ id_text id
unfolding id_word id_text lead_of
id_bytes id l = go (eqb id 2046) refl
  where
    go : (t : Bool) → eqb id 2046 ≡ t
        → bytes_of (4 - lead_of id) (cond (not t) (digits_of id) 1701736302) ≡ cond (not t) (dec id) (codes "none")
    go true e = rw (eqb-true id 2046 e)
    go false e = digits_bytes id l

-- the front of a number's bytes
take_bytes : (k n w : ℕ) → k ≤ n → take k (bytes_of n w) ≡ bytes_of k w
take_bytes k n w l =
    let e : n ≡ k + (n - k) = omega arith in
    rw (e, bytes_append k (n - k) w) (rw (bytes_length k w) at (take-append_seam (bytes_of k w) (bytes_of (n - k) (w / 256 ^ k))))

-- a number after a key's last two bytes x, of which the text is k
ended_after : (n w x : ℕ) → x < 65536 → Ended n w → bytes_of (w / 4294967296 - 2 + 4) (x + 65536 * w) ≡ bytes_of 2 x ++ (dec n ++ codes "\n")
ended_after n w x l h =
    let e : w / 4294967296 - 2 + 4 ≡ 2 + w / 4294967296 = omega (arith, h.least) in
    rw (e, joined 2 (w / 4294967296) x w (omega arith), h.text)

-- the key of the resource, over whose end its number stands, and over that the end of the line
tail_written : {d e f : List ℕ} {at o q : ℕ} (n w : ℕ) → Tailed n w
    → Wrote d at (bytes_of 8 7165919078637728288) e o → Wrote e (at + (3 + w / 72057594037927936)) (bytes_of 8 w) f q
    → let b = at + (3 + w / 72057594037927936) in Wrote d at (line (codes " resource=") n) (set f (b + 7) 10) (b + 8)
tail_written {d} {e} {f} {at} n w h y z =
    let j = 3 + w / 72057594037927936 in
    let b = at + j in
    let end : Wrote f (b + 7) (10 ∷ []) (set f (b + 7) 10) (b + 8) = record { bytes = refl; next = omega arith } in
    let number = over (bytes_of 8 w) (10 ∷ []) 7 (omega arith) (omega arith) z end in
    let key = over (codes " resourc") (bytes_of 7 w ++ (10 ∷ [])) j (omega (arith, h.most)) (omega (arith, h.least)) y number in
    let said : take j (codes " resourc") ++ (bytes_of 7 w ++ (10 ∷ [])) ≡ line (codes " resource=") n =
    sym (append_assoc (take j (codes " resourc")) (bytes_of 7 w) (10 ∷ [])) ∙ ap (λ (t : List ℕ). t ++ (10 ∷ [])) h.text in
    subst (λ (t : List ℕ). Wrote d at t (set f (b + 7) 10) (b + 8)) said key

pub sta_written : {d e f g : List ℕ} {at o s q : ℕ} (id r w m : ℕ) → id < 10000 → Tailed r w → m ≡ lead_of id
    → Wrote d at (bytes_of 8 (1029796979 + 4294967296 * id_word id)) e o
    → Wrote e (at + (8 - m)) (bytes_of 8 7165919078637728288) f s
    → Wrote f (at + (8 - m) + (3 + w / 72057594037927936)) (bytes_of 8 w) g q
    → let b = at + (8 - m) + (3 + w / 72057594037927936) in Wrote d at (sta_line id r) (set g (b + 7) 10) (b + 8)
unfolding sta_line
sta_written {at = at} id r w m l h e x y z =
    let few = lead_most id in
    let i : 8 - m ≡ 4 + (4 - lead_of id) = omega arith in
    let name = 1029796979 + 4294967296 * id_word id in
    let front : take (8 - m) (bytes_of 8 name) ≡ codes "sta=" ++ id_text id =
    take_bytes (8 - m) 8 name (omega arith) ∙ rw (i, joined 4 (4 - lead_of id) 1029796979 (id_word id) (omega arith), id_bytes id l) refl in
    let rest = line (codes " resource=") r in
    rw front at (over (bytes_of 8 name) rest (8 - m) (omega arith) (omega arith) x (tail_written r w h y z))

-- ---- the lines before the resources, in numbers of eight bytes
bw_test : ℕ → Bool
bw_test bw = same (bytes_of 8 (7309916347481678346 + 4294967296 * bw)) (codes "\nbw=" ++ (dec bw ++ codes "\nre"))

bw_bytes : (bw : ℕ) → bw < 10 → bytes_of 8 (7309916347481678346 + 4294967296 * bw) ≡ codes "\nbw=" ++ (dec bw ++ codes "\nre")
unfolding bw_test dec
bw_bytes bw l = same_equal _ _ (every_below bw_test 10 tt bw l)

nested : (a l b w e o r f u g v s q t : List ℕ)
    → a ++ (((l ++ b) ++ (w ++ (l ++ e))) ++ (o ++ ((r ++ l) ++ (f ++ ((u ++ l) ++ (g ++ ((v ++ l) ++ (s ++ (q ++ (t ++ l))))))))))
    ≡ (((((a ++ l) ++ ((b ++ w) ++ l)) ++ (((e ++ o) ++ r) ++ l)) ++ ((f ++ u) ++ l)) ++ ((g ++ v) ++ l)) ++ (((s ++ q) ++ t) ++ l)
nested a l b w e o r f u g v s q t = simp append_assoc refl

zero_text : dec 0 ≡ codes "0"
unfolding dec
zero_text = refl

-- ---- a count, of which more is stored than its line has, and what stands over that
pub count_written : {d e f : List ℕ} {at o q : ℕ} (n w : ℕ) (u : List ℕ) → Ended n w → 6 ≤ length u → Wrote d at (bytes_of 8 w) e o
    → Wrote e (at + w / 4294967296) u f q → Wrote d at ((dec n ++ codes "\n") ++ u) f q
count_written n w u h l x y =
    let front : take (w / 4294967296) (bytes_of 8 w) ≡ dec n ++ codes "\n" =
    take_bytes (w / 4294967296) 8 w (omega (arith, h.most)) ∙ h.text in
    let eight = bytes_length 8 w in
    rw front at (over (bytes_of 8 w) u (w / 4294967296) (omega (arith, h.most)) (omega (arith, h.least)) x y)

pub last_written : {d e f : List ℕ} {at o q : ℕ} (n w : ℕ) → Ended n w → Wrote d at (bytes_of 8 8317708060514677875) e o
    → Wrote e (at + 7) (bytes_of (w / 4294967296 - 2 + 4) (15731 + 65536 * w)) f q
    → Wrote d at (codes "stations" ++ (codes "=" ++ (dec n ++ codes "\n"))) f q
last_written n w h x y =
    over (codes "stations") (codes "s=" ++ (dec n ++ codes "\n")) 7 (omega arith) (omega arith) x (rw (ended_after n w 15731 (omega arith) h) at y)

pub counts_long : (m k s : ℕ) → 6 ≤ length (counts_text m k s)
unfolding counts_text
counts_long m k s = omega arith

pub head_bytes : (bw r m k s : ℕ) → bw < 10
    → bytes_of 8 3476060267521207905
    ++ (bytes_of 8 (7309916347481678346 + 4294967296 * bw) ++ (bytes_of 8 4427994336431796083 ++ ((dec r ++ codes "\n") ++ counts_text m k s)))
    ≡ head_text bw r m k s
unfolding head_text counts_text
head_bytes bw r m k s l =
    ap (λ (t : List ℕ). codes "answer=0" ++ (t ++ (codes "sources=" ++ ((dec r ++ codes "\n") ++ counts_text m k s)))) (bw_bytes bw l)
    ∙ nested (codes "answer=0") (codes "\n") (codes "bw=") (dec bw) (codes "re") (codes "sources=") (dec r) (codes "fields1=") (dec m)
    (codes "fields2=") (dec k) (codes "stations") (codes "=") (dec s)
    ∙ rw zero_text refl
