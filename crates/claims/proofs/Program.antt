-- The program has the first demand.
use mathlib.Core.Path.{◌≡◌, refl, sym, ◌∙◌, ap}
use mathlib.Core.Logic.{◌⊎◌}
use mathlib.Core.List.{List, ◌++◌, append_assoc}
use Prim.Native.Nat.{ℕ, ◌≤◌, ◌<◌}
use native.Mathlib.Decide.{dec_lt}
use native.Mathlib.Omega.{arith}
use lib.Dec.{leb, leb→le}
use lib.ListN.{length, get_or, drop}
use borrow.Author.Tests.{le-ltb}
use Rattle.answer.specs.declared.Answer.{Answer}
use Rattle.answer.specs.Answer.{Outcome}
use Rattle.std.specs.Prelude.{Ok, Err}
use Rattle.answer.proofs.First.{applies_below}
use Rattle.answer.proofs.Order.{pass_left, pass_not_refuse, if_pass}
use Rattle.answer.specs.declared.Refusal.{Refusal}
use Rattle.answer.specs.Answer.{answer_of}
use Rattle.resource.proofs.Test.{every_below}
use Rattle.halves.specs.Table.{outcome11}
use Rattle.frame_words.specs.Words.{word_count}
use Rattle.frame_words.proofs.Counted.{word_count_le}
use Rattle.reader.specs.Table.{check12, no_room, read_checks, read_numbers}
use Rattle.reader.specs.Result.{read_answer}
use Rattle.reader.proofs.Stages.{read_outcome_stages}
use Rattle.reader.proofs.Exactly as reading
use Rattle.text.specs.Text.{codes, line, Wrote}
use Rattle.text.proofs.Laws.{front, count as written}
use Rattle.input.specs.Worked.{Said, wrong, frame, said, TextOf}
use Rattle.input.proofs.Worked.{worked}
use Rattle.lines.specs.Lines.{refusal_text, head_text}
use Rattle.listed.specs.Listing.{listing_of, listing, frame_text, program_text}
use Rattle.listing.proofs.Facts.{read_refuses}
use Rattle.listing_size.proofs.Longest.{respond_most}
use Rattle.claims.specs.Calls.{Call, TextCall, Responds, responds}
use Rattle.claims.specs.Program.{Response, says_22, says_refusal, says_listing, Gets, gets_22, gets_refusal, gets_listing, text_for, number_in, Reading}
use Rattle.claims.specs.Program.{Program}
use Rattle.claims.proofs.Compared.{compares_say}

-- ---- a refusal by 1 to 11
module _ (bw : ℕ) (a b : List ℕ) (x : Refusal) (e : outcome11 bw a b ≡ Err x) where
  refusal : read_answer bw a b 154 ≡ answer_of x
  refusal = read_refuses bw a b x e

  no_0 : (answer_of x).number ≡ 0 → ⊥
  no_0 z =
      let p = reading.accepted_exactly bw a b 154 (ap (λ (y : Answer). y.number) refusal ∙ z) in
      pass_not_refuse (pass_left (outcome11 bw a b) (check12 bw a b 154) (sym (read_outcome_stages bw a b 154) ∙ p)) e

  -- 154 words are room enough
  no_12 : check12 bw a b 154 ≡ Ok tt
  unfolding check12 no_room
  no_12 = if_pass _ _ (le-ltb 154 (word_count bw a b) (word_count_le bw a b))

  pub of_table : (1 ≤ (answer_of x).number) × ((answer_of x).number ≤ 11)
  of_table =
      let j = rw refusal at (reading.read_judged bw a b 154) in
      let r = j.refused no_0 in
      let k = r.0 in
      let m : k < 12 = applies_below (read_checks bw a b 154) k r.2.refusal r.2.applies.refuses in
      go k m r.1 r.2.refusal r.2.applies.refuses
    where
      go : (k : ℕ) → k < 12 → (answer_of x).number ≡ get_or read_numbers k 0 → (y : Refusal) → get_or (read_checks bw a b 154) k (Ok tt) ≡ Err y
          → (1 ≤ (answer_of x).number) × ((answer_of x).number ≤ 11)
      go k m n y f = last (dec_lt k 11)
        where
          last : Dec (k < 11) → (1 ≤ (answer_of x).number) × ((answer_of x).number ≤ 11)
          last (yes l) =
              let u = leb→le 1 (get_or read_numbers k 0) (every_below (λ i. leb 1 (get_or read_numbers i 0)) 11 tt k l) in
              let v = leb→le (get_or read_numbers k 0) 11 (every_below (λ i. leb (get_or read_numbers i 0) 11) 11 tt k l) in
              (omega (arith, n, u), omega (arith, n, v))
          last (no l) = let q : k ≡ 11 = omega arith in absurd (pass_not_refuse no_12 (rw q at f))

-- ---- what a text gets
abbrev by_outcome : ℕ → List ℕ → List ℕ → Outcome → Response
by_outcome bw a b (Ok u) = says_listing bw a b
by_outcome bw a b (Err x) = says_refusal (answer_of x)

abbrev response : Said → Response
response (wrong k) = says_22 k
response (frame bw a b) = by_outcome bw a b (outcome11 bw a b)

gets : (s : List ℕ) → Gets s (response (said s))
gets s = go (said s) refl
  where
    by : (bw : ℕ) (a b : List ℕ) → TextOf s bw a b → (o : Outcome) → outcome11 bw a b ≡ o → Gets s (by_outcome bw a b o)
    by bw a b t (Ok u) e = gets_listing bw a b t e
    by bw a b t (Err x) e = gets_refusal bw a b x t e

    go : (x : Said) → said s ≡ x → Gets s (response x)
    go (wrong k) e = gets_22 k ((worked s).is_wrong k e)
    go (frame bw a b) e = by bw a b ((worked s).is_said bw a b e) (outcome11 bw a b) refl

gets_only : (s : List ℕ) (y : Response) → Gets s y → y ≡ response (said s)
gets_only s y (gets_22 k p) = sym (ap response ((worked s).wrong_said k p))
gets_only s y (gets_refusal bw a b x t e) = sym (ap response ((worked s).says bw a b t) ∙ ap (by_outcome bw a b) e)
gets_only s y (gets_listing bw a b t e) = sym (ap response ((worked s).says bw a b t) ∙ ap (by_outcome bw a b) e)

text_is : (s : List ℕ) (x : Response) → Gets s x → program_text s ≡ text_for x
unfolding program_text frame_text refusal_text
text_is s x (gets_22 k p) = rw ((worked s).wrong_said k p)
text_is s x (gets_refusal bw a b y t e) = rw ((worked s).says bw a b t, e)
text_is s x (gets_listing bw a b t e) = rw ((worked s).says bw a b t, e)

-- ---- what is written
responds_with : (c : TextCall) → Responds c → Wrote c.lent 0 (program_text c.text) c.after c.bytes
responds_with c (responds κs a r s p) = p

writes : (c : TextCall) → Responds c → (x : Response) → Gets c.text x
    → (c.bytes ≡ length (text_for x)) × (c.bytes ≤ length c.lent → c.after ≡ text_for x ++ drop c.bytes c.lent)
writes c h x g =
    let w : Wrote c.lent 0 (text_for x) c.after c.bytes = rw (text_is c.text x g) at (responds_with c h) in
    let n = written w in
    (n, λ l. front (omega (arith, n)) w ∙ ap (λ (k : ℕ). text_for x ++ drop k c.lent) (sym n))

-- a text t that begins with the line h, and with u after it
record Begins (h t : List ℕ) : Type 0 where
  pub rest : List ℕ
  pub is : t ≡ h ++ rest

then : {h t : List ℕ} (u : List ℕ) → Begins h t → Begins h (t ++ u)
then {h} u b = record { rest = b.rest ++ u; is = ap (λ (v : List ℕ). v ++ u) b.is ∙ append_assoc h b.rest u }

alone : (h u : List ℕ) → Begins h (h ++ u)
alone h u = record { rest = u; is = refl }

begins : (x : Response) → Begins (line (codes "answer=") (number_in x)) (text_for x)
unfolding listing listing_of head_text
begins (says_22 k) = then _ (alone (line (codes "answer=") 22) _)
begins (says_refusal x) = then _ (alone (line (codes "answer=") x.number) _)
begins (says_listing bw a b) = then _ (then _ (then _ (then _ (then _ (then _ (alone (line (codes "answer=") 0) _))))))

-- ---- readings of the frame that a text spells
the_frame : (s : List ℕ) (bw : ℕ) (a b : List ℕ) (o : Outcome) (c : Call) → Reading s c → TextOf s bw a b → outcome11 bw a b ≡ o
    → outcome11 c.bandwidth c.channel_1 c.channel_2 ≡ o
the_frame s bw a b o c r t e =
    let f : frame c.bandwidth c.channel_1 c.channel_2 ≡ frame bw a b =
    sym ((worked s).says c.bandwidth c.channel_1 c.channel_2 r.is_said) ∙ (worked s).says bw a b t in
    let x : c.bandwidth ≡ bw = cc in
    let y : c.channel_1 ≡ a = cc in
    let z : c.channel_2 ≡ b = cc in
    rw (x, y, z) e

as_read : (s : List ℕ) (c : Call) → Reading s c → (x : Answer) → Gets s (says_refusal x) → (c.answer ≡ x) × (1 ≤ x.number) × (x.number ≤ 11)
as_read s c r x (gets_refusal bw a b y t e) =
    (compares_say.its_answer c r.is_read y (the_frame s bw a b (Err y) c r t e), (of_table bw a b y e).0, (of_table bw a b y e).1)

or_read : (s : List ℕ) (c : Call) → Reading s c → (bw : ℕ) (a b : List ℕ) → Gets s (says_listing bw a b)
    → (c.answer.number ≡ 0) ⊎ (c.answer.number ≡ 12)
or_read s c r bw a b (gets_listing bw' a' b' t e) = compares_say.is_read c r.is_read (the_frame s bw' a' b' (Ok tt) c r t e)

agreed : (c c' : TextCall) → Responds c → Responds c' → c.text ≡ c'.text → c.lent ≡ c'.lent → (c.bytes ≡ c'.bytes) × (c.after ≡ c'.after)
agreed c c' h h' e f =
    let p = responds_with c h in
    let q = responds_with c' h' in
    (p.next ∙ rw e (sym q.next), p.bytes ∙ rw (e, f) (sym q.bytes))

pub program : Program
program = record {
  exactly_one = λ s. (response (said s), gets s, gets_only s);
  writes = writes;
  first_line = λ x. ((begins x).rest, (begins x).is);
  as_read = as_read;
  or_read = or_read;
  always_room = λ c h. respond_most c.text (responds_with c h);
  agree = agreed;
}
