-- 02's T-03 holds of every answer, and only places have moved.
use mathlib.Core.Path.{◌≡◌, refl, sym, ◌∙◌}
use mathlib.Core.Logic.{◌⊎◌, inl, inr, ⊎_elim}
use mathlib.Core.Bool.{Bool, true, false, ◌&&◌}
use mathlib.Core.List.{List, [], ◌∷◌, ◌++◌}
use Prim.Native.Nat.{ℕ, ◌*◌, ◌/◌, ◌≤◌, ◌<◌}
use native.Mathlib.Omega.{arith}
use lib.Dec.{ltb}
use lib.ListN.{length, get_or, take, drop}
use lib.Seq.{take-append_seam}
use Rattle.answer.specs.Answer.{no, refuse_if, ◌or◌, answer_at, after, passes}
use Rattle.answer.specs.Order.{first_of, Answers, Judged}
use Rattle.answer.specs.declared.Answer.{Answer}
use Rattle.answer.specs.Answer.{Outcome}
use Rattle.std.specs.Prelude.{Ok, Err}
use Rattle.answer.proofs.Order.{or_cases, or_refuse}
use Rattle.answer.proofs.First.{applies_below}
use Rattle.answer.proofs.Numbers.{distinct, absent, distinct_at}
use Rattle.answer.specs.declared.Refusal.{Refusal}
use Rattle.answer.specs.Answer.{answer_of}
use Rattle.answer.specs.declared.Refusal.TheVariants.{CommonFieldCut, UserBlocksCut}
use Rattle.channel.specs.Layout.{present, common, count, end_of}
use Rattle.channel.specs.Fields.{named_fields}
use Rattle.channel.proofs.Blocks.{end_none}
use Rattle.channel.proofs.Fields.{tiles, places_on_list}
use Rattle.faults.specs.Checks.{cut_common, cut_users}
use Rattle.faults.specs.RanOut.{ran_out_at}
use Rattle.faults.proofs.Passing.{refuse_cut_common, refuse_cut_users}
use Rattle.faults.proofs.RanOut.{did_not_fit, one_did_not_fit}
use Rattle.halves.specs.Table.{check1, check2, check3, check4, check5, check6, check7, check8, check9, check10, check11, checks11, outcome11}
use Rattle.reader.specs.Table.{check12, read_checks, read_numbers, read_outcome}
use Rattle.reader.specs.Result.{read_answer, words_after}
use Rattle.text.specs.Text.{Wrote}
use Rattle.text.proofs.Laws.{front, count as written}
use Rattle.input.specs.Worked.{frame, said}
use Rattle.lines.specs.Lines.{refusal_text}
use Rattle.listed.specs.Listing.{listing, check23, list_numbers, list_checks, list_outcome, list_answer, list_after, frame_text, program_text}
use Rattle.listing.proofs.Judged as listed
use Rattle.byte_reader.specs.Bytes.{read_bytes}
use Rattle.claims.specs.Calls.{Call, TextCall, Reads, reads, Lists, lists, CReads, c_reads, CLists, c_lists, Responds, responds}
use Rattle.claims.specs.CutShort.{EndsIn, OfChannel, of_1, of_2, SaysWhere, cut_common_before, cut_users_before, checks11_before, read_before, list_before}
use Rattle.claims.specs.CutShort.{ButPlaces, unchanged, common_moved, users_moved, SameAnswer, AsBefore, ReadAsBefore, CReadAsBefore, ListAsBefore, CutShort}
use Rattle.claims.proofs.First.{first_demand}

-- ---- where the bits ran out

ends_in : (bw n : ℕ) (s : List ℕ) → 8 * length s < end_of bw n → EndsIn bw n s (ran_out_at s (named_fields bw n))
ends_in bw n s l =
    let (k, m, d, e) = did_not_fit bw n s l in
    record {
      too_short = l;
      which = k;
      is_named = m;
      did_not_fit = d;
      no_other = λ j q. one_did_not_fit bw n s j k q d;
      its_first_bit = e;
    }

module _ (bw : ℕ) (a b : List ℕ) where
  -- what a refusal of one channel says
  common_ends : {c : ℕ} (s : List ℕ) (x : Refusal) → OfChannel a b c s → cut_common bw c s ≡ Err x
      → (t : List ℕ) × OfChannel a b (answer_of x).channel t × EndsIn bw 0 t (answer_of x).place
  common_ends {c} s x o e =
      let r = refuse_cut_common bw c s x e in
      (s, rw r.2 o, rw r.2 (ends_in bw 0 s (omega (arith, r.1, end_none bw))))

  users_ends : {c : ℕ} (s : List ℕ) (x : Refusal) → OfChannel a b c s → cut_users bw c s ≡ Err x
      → (t : List ℕ) × OfChannel a b (answer_of x).channel t × EndsIn bw (count bw (answer_of x).channel t) t (answer_of x).place
  users_ends {c} s x o e =
      let r = refuse_cut_users bw c s x e in
      (s, rw r.2 o, rw r.2 (ends_in bw (count bw c s) s r.1))

  -- of a row that asks the one, then the other
  either : {Ends : List ℕ → Type 0} (check : ℕ → List ℕ → Outcome) (x : Refusal)
      → ((c : ℕ) (s : List ℕ) → OfChannel a b c s → check c s ≡ Err x → (t : List ℕ) × OfChannel a b (answer_of x).channel t × Ends t)
      → check 1 a or check 2 b ≡ Err x → (s : List ℕ) × OfChannel a b (answer_of x).channel s × Ends s
  either check x h e =
      ⊎_elim
      (λ (p : check 1 a ≡ Err x). h 1 a of_1 p)
      (λ (p : (check 1 a ≡ Ok tt) × (check 2 b ≡ Err x)). h 2 b of_2 p.1)
      (or_cases (check 1 a) (check 2 b) x e)

  three_ends : (x : Refusal) → check3 bw a b ≡ Err x → (s : List ℕ) × OfChannel a b (answer_of x).channel s × EndsIn bw 0 s (answer_of x).place
  unfolding check3
  three_ends x e = either (cut_common bw) x (λ c s o p. common_ends s x o p) e

  nine_ends : (x : Refusal) → check9 bw a b ≡ Err x
      → (s : List ℕ) × OfChannel a b (answer_of x).channel s × EndsIn bw (count bw (answer_of x).channel s) s (answer_of x).place
  unfolding check9
  nine_ends x e = either (cut_users bw) x (λ c s o p. users_ends s x o p) e

  -- of an answer by the rows 1 to 11 and one more, each with its own number
  module _ (ns : List ℕ) (o : Outcome) (n : ℕ) (x : Answer) (size : length ns ≡ 12) (d : distinct ns ≡ true)
      (j : Judged ns (checks11 bw a b ++ (o ∷ [])) n x) where
    row : (k : ℕ) → k < 12 → (get_or ns k 0 ≡ 0 → ⊥) → x.number ≡ get_or ns k 0 → Answers (checks11 bw a b ++ (o ∷ [])) k x
    row k l z e =
        let r = j.refused (λ f. z (sym e ∙ f)) in
        let i = r.0 in
        let m : i < 12 = applies_below (checks11 bw a b ++ (o ∷ [])) i r.2.refusal r.2.applies.refuses in
        let q : i ≡ k = distinct_at ns d i k (omega arith) (omega arith) (sym r.1 ∙ e) in
        rw q at r.2

    says : get_or ns 2 0 ≡ 3 → get_or ns 8 0 ≡ 9 → SaysWhere bw a b x
    says e f = record {
      at_3 = λ p. (let w = row 2 (omega arith) (λ z. omega arith) (p ∙ sym e) in rw w.answers (three_ends w.refusal w.applies.refuses));
      at_9 = λ p. (let w = row 8 (omega arith) (λ z. omega arith) (p ∙ sym f) in rw w.answers (nine_ends w.refusal w.applies.refuses));
    }

read_rows : (bw : ℕ) (a b : List ℕ) (room n : ℕ) (x : Answer) → Judged read_numbers (read_checks bw a b room) n x → SaysWhere bw a b x
unfolding distinct absent
read_rows bw a b room n x j = says bw a b read_numbers (check12 bw a b room) n x refl refl j refl refl

list_rows : (bw : ℕ) (a b : List ℕ) (room n : ℕ) (x : Answer) → Judged list_numbers (list_checks bw a b room) n x → SaysWhere bw a b x
unfolding distinct absent
list_rows bw a b room n x j = says bw a b list_numbers (check23 bw a b room) n x refl refl j refl refl

-- a frame that 1 to 11 refuse: the listing's answer is the refusal
refused_says : (bw : ℕ) (a b : List ℕ) (x : Refusal) → outcome11 bw a b ≡ Err x → SaysWhere bw a b (answer_of x)
unfolding list_answer list_outcome
refused_says bw a b x e =
    let f : list_answer bw a b 0 ≡ answer_of x = rw (or_refuse (outcome11 bw a b) (check23 bw a b 0) x e) in
    list_rows bw a b 0 (length (listing bw a b)) (answer_of x) (rw f at (listed.list_judged bw a b 0))

program_refuses : (c : TextCall) → Responds c → (bw : ℕ) (a b : List ℕ) (x : Refusal) → said c.text ≡ frame bw a b → outcome11 bw a b ≡ Err x
    → c.bytes ≤ length c.lent → take c.bytes c.after ≡ refusal_text (answer_of x).number (answer_of x).channel (answer_of x).place
unfolding program_text frame_text
program_refuses c (responds κs y r s p) bw a b x e h l =
    let t = refusal_text (answer_of x).number (answer_of x).channel (answer_of x).place in
    let w : Wrote y.1.0.now 0 t s.1.0.now r = rw (e, h) at p in
    let n : r ≡ length t = written w in
    let f : s.1.0.now ≡ t ++ drop (length t) y.1.0.now = front (omega arith) w in
    rw (f, n, take-append_seam) refl

-- ---- before and now

common_but : (t : Bool) (c p q : ℕ) → ButPlaces (refuse_if t (CommonFieldCut c p)) (refuse_if t (CommonFieldCut c q))
common_but true c p q = common_moved c p q
common_but false c p q = unchanged (Ok tt)

users_but : (t : Bool) (c p q : ℕ) → ButPlaces (refuse_if t (UserBlocksCut c p)) (refuse_if t (UserBlocksCut c q))
users_but true c p q = users_moved c p q
users_but false c p q = unchanged (Ok tt)

but_or : {o p q r : Outcome} → ButPlaces o p → ButPlaces q r → ButPlaces (o or q) (p or r)
but_or (unchanged (Ok u)) h = h
but_or (unchanged (Err x)) h = unchanged (Err x)
but_or (common_moved c p q) h = common_moved c p q
but_or (users_moved c p q) h = users_moved c p q

common_same : (bw c : ℕ) (s : List ℕ) → ButPlaces (cut_common_before bw c s) (cut_common bw c s)
unfolding cut_common
common_same bw c s = common_but (present bw c && ltb (8 * length s) (common bw)) c (8 * length s) (ran_out_at s (named_fields bw 0))

users_same : (bw c : ℕ) (s : List ℕ) → ButPlaces (cut_users_before bw c s) (cut_users bw c s)
unfolding cut_users
users_same bw c s =
    let n = count bw c s in
    users_but (ltb 0 n && ltb (8 * length s) (end_of bw n)) c (8 * length s) (ran_out_at s (named_fields bw n))

-- the rows 1 to 11 and what follows them
module _ (bw : ℕ) (a b : List ℕ) where
  three_same : ButPlaces (cut_common_before bw 1 a or cut_common_before bw 2 b) (check3 bw a b)
  unfolding check3
  three_same = but_or (common_same bw 1 a) (common_same bw 2 b)

  nine_same : ButPlaces (cut_users_before bw 1 a or cut_users_before bw 2 b) (check9 bw a b)
  unfolding check9
  nine_same = but_or (users_same bw 1 a) (users_same bw 2 b)

  rows_same : (os : List Outcome) → ButPlaces (first_of (checks11_before bw a b ++ os)) (first_of (checks11 bw a b ++ os))
  unfolding first_of
  rows_same os =
      but_or (unchanged (check1 bw))
      (but_or (unchanged (check2 bw a b))
      (but_or three_same
      (but_or (unchanged (check4 bw a b))
      (but_or (unchanged (check5 bw a b))
      (but_or (unchanged (check6 bw a b))
      (but_or (unchanged (check7 bw a b))
      (but_or (unchanged (check8 bw a b))
      (but_or nine_same
      (but_or (unchanged (check10 bw a b))
      (but_or (unchanged (check11 bw a b)) (unchanged (first_of os))))))))))))

  same_table : ButPlaces (first_of (checks11_before bw a b)) (outcome11 bw a b)
  unfolding outcome11
  same_table = rows_same []

  same_read : (room : ℕ) → ButPlaces (read_before bw a b room) (read_outcome bw a b room)
  unfolding read_outcome
  same_read room = rows_same (check12 bw a b room ∷ [])

  same_list : (room : ℕ) → ButPlaces (list_before bw a b room) (list_outcome bw a b room)
  unfolding list_outcome
  same_list room = but_or same_table (unchanged (check23 bw a b room))

same_passes : {o p : Outcome} → ButPlaces o p → passes o ≡ passes p
same_passes (unchanged q) = refl
same_passes (common_moved c x y) = refl
same_passes (users_moved c x y) = refl

answers_same : {o p : Outcome} (n : ℕ) → ButPlaces o p → SameAnswer (answer_at o n) (answer_at p n)
answers_same n (unchanged q) = record { same_number = refl; same_channel = refl; same_place = λ _ _. refl }
answers_same n (common_moved c x y) = record { same_number = refl; same_channel = refl; same_place = λ f g. absurd (f refl) }
answers_same n (users_moved c x y) = record { same_number = refl; same_channel = refl; same_place = λ f g. absurd (g refl) }

buffers_same : {o p : Outcome} (new old : List ℕ) → ButPlaces o p → after p new old ≡ after o new old
buffers_same new old (unchanged q) = refl
buffers_same new old (common_moved c x y) = refl
buffers_same new old (users_moved c x y) = refl

-- a call whose answer and buffer come of p, beside o
as_before : {o p : Outcome} (n : ℕ) (new : List ℕ) (c : Call) → ButPlaces o p → c.answer ≡ answer_at p n → c.after ≡ after p new c.lent
    → AsBefore o n new c
as_before n new c h x y = record { same_answer = rw x (answers_same n h); same_buffer = y ∙ buffers_same new c.lent h }

read_as_before : (c : Call) → Reads c → ReadAsBefore c.bandwidth c.channel_1 c.channel_2 c
unfolding read_answer words_after
read_as_before c (reads κs x r s p) =
    as_before _ _ _ (same_read x.0 x.1.0.now x.1.1.0.now (length x.1.1.1.0.now)) p.0 p.1

c_read_as_before : (c : Call) → CReads c → CReadAsBefore c.bandwidth c.channel_1 c.channel_2 c
unfolding read_answer read_bytes
c_read_as_before c (c_reads κs x r s p) =
    as_before _ _ _ (same_read x.0 x.1.0.now x.1.1.0.now (length x.1.1.1.0.now / 4)) p.0 p.1

list_as_before : (c : Call) → Lists c → ListAsBefore c.bandwidth c.channel_1 c.channel_2 c
unfolding list_answer list_after
list_as_before c (lists κs x r s p) =
    as_before _ _ _ (same_list x.0 x.1.0.now x.1.1.0.now (length x.1.1.1.0.now)) p.0 p.1

c_list_as_before : (c : Call) → CLists c → ListAsBefore c.bandwidth c.channel_1 c.channel_2 c
unfolding list_answer list_after
c_list_as_before c (c_lists κs x r s p) =
    as_before _ _ _ (same_list x.0 x.1.0.now x.1.1.0.now (length x.1.1.1.0.now)) p.0 p.1

pub cut_short : CutShort
cut_short = record {
  are_all = tiles;
  have_places = places_on_list;
  read_says = λ c h. read_rows c.bandwidth c.channel_1 c.channel_2 _ _ c.answer (first_demand.read_ends c h);
  list_says = λ c h. list_rows c.bandwidth c.channel_1 c.channel_2 _ _ c.answer (first_demand.list_ends c h);
  c_read_says = λ c h. read_rows c.bandwidth c.channel_1 c.channel_2 _ _ c.answer (first_demand.c_read_ends c h);
  c_list_says = λ c h. list_rows c.bandwidth c.channel_1 c.channel_2 _ _ c.answer (first_demand.c_list_ends c h);
  program_says = λ c h bw a b x e f. (refused_says bw a b x f, program_refuses c h bw a b x e f);
  same_refused = λ bw a b. same_passes (same_table bw a b);
  same_table = same_table;
  same_read = same_read;
  same_list = same_list;
  read_as_before = read_as_before;
  list_as_before = list_as_before;
  c_read_as_before = c_read_as_before;
  c_list_as_before = c_list_as_before;
}
