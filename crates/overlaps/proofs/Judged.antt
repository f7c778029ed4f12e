-- The answer to a list is by 02's rows in their order (T-02), an entry's refusal that of reading it by itself; and a refusal writes nothing.
use mathlib.Core.Path.{◌≡◌, refl, sym, ◌∙◌, ap, subst}
use mathlib.Core.Logic.{⊎_elim}
use mathlib.Core.Bool.{Bool, not, ◌||◌}
use mathlib.Core.List.{List, [], ◌∷◌, ◌++◌}
use Prim.Native.Nat.{ℕ, zero, suc, ◌+◌, ◌*◌, ◌/◌, ◌%◌, ◌≤◌, ◌<◌}
use native.Mathlib.Omega.{arith}
use native.Mathlib.Nat.{eq-or-lt_of_le, le_of_suc-le-suc}
use native.Mathlib.Numerals.{add-one}
use borrow.Author.Tests.{ltb-true, ltb-false, le-ltb}
use lib.Dec.{ltb, eqb}
use lib.ListN.{length, drop, get_or, length-take, length-drop, get_or-append}
use lib.Seq.{drop-append_seam}
use Rattle.answer.specs.Answer.{no, of_entry, refuse_if, ◌or◌, answer_at, after}
use Rattle.answer.specs.Lists.{at}
use Rattle.answer.specs.Order.{first_of, Answers}
use Rattle.answer.specs.declared.Answer.{Answer}
use Rattle.answer.specs.Answer.{Outcome}
use Rattle.std.specs.Prelude.{Ok, Err}
use Rattle.answer.proofs.First.{first_chain, first_pass, first_applies}
use Rattle.answer.proofs.Order.{pass_or_refuse, pass_not_refuse, refuse_same, pass_left, pass_right, pass_if, refuse_if_lem, or_cases, or_end, after_answered}
use Rattle.answer.specs.declared.Refusal.TheVariants.{UnknownBandwidth, NotWholeEntries, ReservedBitSet, NotNamed, OtherLayout, TooManyEntries, TooFewPairs}
use Rattle.answer.specs.declared.Refusal.{Refusal}
use Rattle.answer.specs.Answer.{answer_of}
use Rattle.trigger_values.specs.UserInfo.{aid12, b0, value_in, ps160}
use Rattle.trigger_values.specs.Values.{taken}
use Rattle.trigger.specs.Reading.{above2, is2007, bit_set, not_taken, info_outcome, no_record_room, not_five, entry_outcome, entry_answer}
use Rattle.trigger.proofs.Stages.{read_chain}
use Rattle.trigger.proofs.Worked.{accepted}
use Rattle.overlaps.specs.Overlaps.{entries_in, entry_at, info_at, Reported}
use Rattle.overlaps.specs.Worked.{pair_count, pair_bytes}
use Rattle.overlaps.specs.Result.{not_whole, over32, placed, entries_outcome, no_pair_room, overlaps_outcome, overlaps_checks, overlaps_answer, pairs_after}
use Rattle.overlaps.specs.Result.{ReadsAlone, FirstRefused, JudgedList}
use Rattle.overlaps.proofs.Worked.{worked}

-- ---- the entries of a list
placed_refuse : (p : ℕ) (o : Outcome) (x : Refusal) → placed p o ≡ Err x → (y : Refusal) × (o ≡ Err y) × (x ≡ of_entry p y)
placed_refuse p (Ok u) x e = absurd (pass_not_refuse refl e)
placed_refuse p (Err y) x e = (y, refl, refuse_same e refl)

placed_pass : (p : ℕ) (o : Outcome) → placed p o ≡ Ok tt → o ≡ Ok tt
placed_pass p (Ok u) e = refl
placed_pass p (Err y) e = absurd (pass_not_refuse e refl)

module _ (bw : ℕ) (es : List ℕ) where
  pub entries_pass : (n : ℕ) → entries_outcome bw es n ≡ Ok tt → (i : ℕ) → i < n → info_outcome bw (info_at es i) ≡ Ok tt
  unfolding entries_outcome
  entries_pass zero e i l = absurd (omega arith)
  entries_pass (suc n) e i l =
      let a = entries_outcome bw es n in
      let b = placed (suc n) (info_outcome bw (info_at es n)) in
      ⊎_elim
      (λ (q : i ≡ n). rw q (placed_pass (suc n) (info_outcome bw (info_at es n)) (pass_right a b e)))
      (λ (q : i < n). entries_pass n (pass_left a b e) i q)
      (eq-or-lt_of_le (le_of_suc-le-suc l))

  -- the first that is refused
  pub record First (n i : ℕ) (x : Refusal) : Type 0 where
    pub below : i < n
    pub its : (y : Refusal) × (info_outcome bw (info_at es i) ≡ Err y) × (x ≡ of_entry (i + 1) y)
    pub before : (j : ℕ) → j < i → info_outcome bw (info_at es j) ≡ Ok tt

  pub entries_first : (n : ℕ) (x : Refusal) → entries_outcome bw es n ≡ Err x → (i : ℕ) × First n i x
  unfolding entries_outcome
  entries_first zero x e = absurd (pass_not_refuse refl e)
  entries_first (suc n) x e =
      let a = entries_outcome bw es n in
      let b = placed (suc n) (info_outcome bw (info_at es n)) in
      ⊎_elim
      (λ (p : a ≡ Err x).
      (let w = entries_first n x p in
      let l = w.1.below in
      (w.0, record { below = omega arith; its = w.1.its; before = w.1.before })))
      (λ (p : (a ≡ Ok tt) × (b ≡ Err x)).
      (let y = placed_refuse (suc n) (info_outcome bw (info_at es n)) x p.1 in
      (n, record { below = omega arith; its = (y.0, y.1, y.2 ∙ ap (λ (p : ℕ). of_entry p y.0) (sym (add-one n))); before = entries_pass n p.0 })))
      (or_cases a b x e)

  -- ---- an entry by itself
  module _ (h : bw ≤ 2) (i : ℕ) (l : i < entries_in es) where
    five : length (entry_at es i) ≡ 5
    five = omega (arith, length-take 5 (drop (5 * i) es), length-drop (5 * i) es)

    alone : entry_outcome bw (entry_at es i) 32 ≡ info_outcome bw (info_at es i)
    unfolding above2 not_five no_record_room info_at
    alone =
        let o = info_outcome bw (info_at es i) in
        sym (read_chain bw (entry_at es i) 32) ∙ rw (le-ltb 2 bw (omega arith), five) (or_end o)

    pub read_alone : info_outcome bw (info_at es i) ≡ Ok tt → ReadsAlone bw (entry_at es i)
    unfolding entry_answer
    read_alone e = ap (λ (o : Outcome). (answer_at o 32).number) (alone ∙ e)

    pub refused_alone : (y : Refusal) → info_outcome bw (info_at es i) ≡ Err y → entry_answer bw (entry_at es i) 32 ≡ answer_of y
    unfolding entry_answer
    refused_alone y e = ap (λ (o : Outcome). answer_at o 32) (alone ∙ e)

-- ---- the refusal of an entry with its number
only_placed : (p : ℕ) (t : Bool) (z y : Refusal) → refuse_if t z ≡ Err y → answer_of (of_entry p z) ≡ no (answer_of z).number 0 p
    → answer_of (of_entry p y) ≡ no (answer_of y).number 0 p
only_placed p t z y e h = subst (λ (w : Refusal). answer_of (of_entry p w) ≡ no (answer_of w).number 0 p) (refuse_if_lem t z y e).1 h

pub of_one : (p bw x : ℕ) (y : Refusal) → info_outcome bw x ≡ Err y → answer_of (of_entry p y) ≡ no (answer_of y).number 0 p
unfolding info_outcome is2007 bit_set not_taken
of_one p bw x y e =
    ⊎_elim
    (λ f. ⊎_elim
    (λ g. only_placed p _ (OtherLayout 0) y g refl)
    (λ g. only_placed p _ (ReservedBitSet 0) y g.1 refl)
    (or_cases (is2007 x) (bit_set x) y f))
    (λ f. only_placed p _ (NotNamed 0) y f.1 refl)
    (or_cases (is2007 x or bit_set x) (not_taken bw x) y e)

-- ---- numbers that no refusal has: 0, and 26 before the room is asked for
abbrev pub Never : ℕ → Outcome → Type 0
Never k o = (x : Refusal) → o ≡ Err x → (answer_of x).number ≡ k → ⊥

never_if : (k : ℕ) (t : Bool) (y : Refusal) → ((answer_of y).number ≡ k → ⊥) → Never k (refuse_if t y)
never_if k t y d x e z = d (ap (λ (y : Refusal). (answer_of y).number) (refuse_if_lem t y x e).1 ∙ z)

never_or : (k : ℕ) (a b : Outcome) → Never k a → Never k b → Never k (a or b)
never_or k a b f g x e = ⊎_elim (f x) (λ p. g x p.1) (or_cases a b x e)

-- k is none of these
abbrev pub Other : ℕ → List ℕ → Type 0
Other k [] = Unit {0}
Other k (n ∷ ns) = (n ≡ k → ⊥) × Other k ns

never_info : (k bw x : ℕ) → Other k (24 ∷ 16 ∷ 17 ∷ []) → Never k (info_outcome bw x)
unfolding info_outcome is2007 bit_set not_taken
never_info k bw x d =
    never_or k _ _
    (never_or k _ _ (never_if k (eqb (aid12 x) 2007) (OtherLayout 0) d.0) (never_if k (not (eqb (ps160 x) 0) || not (eqb (b0 x) 0)) (ReservedBitSet 0) d.1.0))
    (never_if k (not (taken bw (value_in x))) (NotNamed 0) d.1.1.0)

module _ (bw : ℕ) (es : List ℕ) where
  never_entries : (k n : ℕ) → Other k (24 ∷ 16 ∷ 17 ∷ []) → Never k (entries_outcome bw es n)
  never_entries k n d x e z =
      let f = (entries_first bw es n x e).1.its in
      never_info k bw _ d f.0 f.1 (sym (ap (λ (y : Answer). y.number) (ap answer_of f.2 ∙ of_one _ bw _ f.0 f.1)) ∙ z)

  -- before the room is asked for
  abbrev pub judged_so_far : Outcome
  judged_so_far = above2 bw or not_whole es or over32 es or entries_outcome bw es (entries_in es)

  pub never_before : (k : ℕ) → Other k (1 ∷ 15 ∷ 25 ∷ []) → Other k (24 ∷ 16 ∷ 17 ∷ []) → Never k judged_so_far
  unfolding above2 not_whole over32
  never_before k c d =
      never_or k _ _
      (never_or k _ _
      (never_or k _ _ (never_if k (ltb 2 bw) UnknownBandwidth c.0) (never_if k (not (eqb (length es % 5) 0)) NotWholeEntries c.1.0))
      (never_if k (ltb 32 (entries_in es)) TooManyEntries c.1.1.0))
      (never_entries k (entries_in es) d)

  numbered : (m : ℕ) → Never 0 (overlaps_outcome bw es m)
  unfolding overlaps_outcome no_pair_room
  numbered m =
      never_or 0 _ _
      (never_before 0 (λ e. omega arith, (λ e. omega arith, (λ e. omega arith, tt))) (λ e. omega arith, (λ e. omega arith, (λ e. omega arith, tt))))
      (never_if 0 (ltb (m / 2) (pair_count es)) TooFewPairs (λ e. omega arith))

  in_order : (m : ℕ) → first_of (overlaps_checks bw es m) ≡ overlaps_outcome bw es m
  unfolding overlaps_outcome
  in_order m = first_chain (above2 bw) (not_whole es ∷ over32 es ∷ entries_outcome bw es (entries_in es) ∷ no_pair_room es m ∷ [])

  narrow : above2 bw ≡ Ok tt → bw ≤ 2
  unfolding above2
  narrow e = let h = ltb-false 2 bw (pass_if (ltb 2 bw) UnknownBandwidth e) in omega arith

  module _ (m : ℕ) where
    passed : (overlaps_answer bw es m).number ≡ 0 → overlaps_outcome bw es m ≡ Ok tt
    unfolding overlaps_answer
    passed z =
        ⊎_elim (λ p. p) (λ r. absurd (numbered m r.0 r.1 (ap (λ (o : Outcome). (answer_at o (pair_count es)).number) (sym r.1) ∙ z)))
        (pass_or_refuse (overlaps_outcome bw es m))

    rows_pass : (overlaps_answer bw es m).number ≡ 0 → (k : ℕ) → get_or (overlaps_checks bw es m) k (Ok tt) ≡ Ok tt
    rows_pass z = first_pass (overlaps_checks bw es m) (in_order m ∙ passed z)

    is_accepted : (overlaps_answer bw es m).number ≡ 0 → overlaps_answer bw es m ≡ no 0 0 (pair_count es)
    unfolding overlaps_answer
    is_accepted z = ap (λ (o : Outcome). answer_at o (pair_count es)) (passed z)

    applies : ((overlaps_answer bw es m).number ≡ 0 → ⊥) → (k : ℕ) × Answers (overlaps_checks bw es m) k (overlaps_answer bw es m)
    unfolding overlaps_answer
    applies n = ⊎_elim (λ p. absurd (n (rw p))) (λ r. go r.0 r.1) (pass_or_refuse (overlaps_outcome bw es m))
      where
        go : (x : Refusal) → overlaps_outcome bw es m ≡ Err x → (k : ℕ) × Answers (overlaps_checks bw es m) k (overlaps_answer bw es m)
        go x e =
            let f = first_applies (overlaps_checks bw es m) x (in_order m ∙ e) in
            (f.0, record { refusal = x; answers = rw e; applies = f.1 })

    by_entry : (r : Answer) → Answers (overlaps_checks bw es m) 3 r → (i : ℕ) × FirstRefused bw es i r
    by_entry r a =
        let h = narrow (a.applies.nothing_earlier 0 (omega arith)) in
        let f = entries_first bw es (entries_in es) a.refusal a.applies.refuses in
        let i = f.0 in
        let y = f.1.its in (
          i,
          record {
            is_entry = f.1.below;
            refused_alone = a.answers ∙ ap answer_of y.2 ∙ of_one (i + 1) bw _ y.0 y.1
                ∙ ap (λ (z : Answer). no z.number 0 (i + 1)) (sym (refused_alone bw es h i f.1.below y.0 y.1));
            earlier_read = λ j l. read_alone bw es h j (let k = f.1.below in omega arith) (f.1.before j l);
          },
        )

    each_read : (overlaps_answer bw es m).number ≡ 0 → (i : ℕ) → i < entries_in es → ReadsAlone bw (entry_at es i)
    each_read z i l = read_alone bw es (narrow (rows_pass z 0)) i l (entries_pass bw es (entries_in es) (rows_pass z 3) i l)

    -- and its pairs are 02's
    pub few : over32 es ≡ Ok tt → entries_in es ≤ 32
    unfolding over32
    few e = let h = ltb-false 32 (entries_in es) (pass_if (ltb 32 (entries_in es)) TooManyEntries e) in omega arith

    the_pairs : above2 bw ≡ Ok tt → over32 es ≡ Ok tt → entries_outcome bw es (entries_in es) ≡ Ok tt → Reported bw es (pair_count es) (pair_bytes es)
    the_pairs n f e =
        (worked bw es).reported (narrow n) (few f) (λ i l. rw (accepted bw (info_at es i) (entries_pass bw es (entries_in es) e i l)).takes tt)

    pub pairs_are : (overlaps_answer bw es m).number ≡ 0 → Reported bw es (pair_count es) (pair_bytes es)
    pairs_are z = the_pairs (rows_pass z 0) (rows_pass z 2) (rows_pass z 3)

    of_room : (r : Answer) → Answers (overlaps_checks bw es m) 4 r → (n : ℕ) × (w : List ℕ) × Reported bw es n w × (m / 2 < n)
    unfolding no_pair_room
    of_room r a =
        let before = a.applies.nothing_earlier in (
          pair_count es,
          pair_bytes es,
          the_pairs (before 0 (omega arith)) (before 2 (omega arith)) (before 3 (omega arith)),
          ltb-true (m / 2) (pair_count es) (refuse_if_lem (ltb (m / 2) (pair_count es)) TooFewPairs a.refusal a.applies.refuses).0,
        )

    pub list_judged : JudgedList bw es m (overlaps_answer bw es m)
    list_judged = record {
      accepted = λ z. (is_accepted z, rows_pass z);
      refused = applies;
      of_entry = by_entry (overlaps_answer bw es m);
      of_room = of_room (overlaps_answer bw es m);
      each_read = each_read;
    }

-- ---- the lent bytes
-- a report by the front of a buffer
front_reported : (bw : ℕ) (es : List ℕ) (n : ℕ) (w v : List ℕ) → ((i : ℕ) → i < 2 * n → at v i ≡ at w i) → Reported bw es n w → Reported bw es n v
front_reported bw es n w v f r = record {
  overlap = λ k l.
      (let o = r.overlap k l in (o.0, o.1, f (2 * k) (omega arith) ∙ o.2, f (2 * k + 1) (omega arith) ∙ o.3, o.4, o.5, o.6));
  every = λ i j l m o.
      (let e = r.every i j l m o in
      let b = e.1 in
      (e.0, b, f (2 * e.0) (omega arith) ∙ e.2, f (2 * e.0 + 1) (omega arith) ∙ e.3));
  rising = λ k l m q.
      rw (f (2 * k) (omega arith), f (2 * l) (omega arith), f (2 * k + 1) (omega arith), f (2 * l + 1) (omega arith)) (r.rising k l m q);
}

module _ (bw : ℕ) (es d : List ℕ) (z : (overlaps_answer bw es (length d)).number ≡ 0) where
  written : pairs_after bw es d ≡ pair_bytes es ++ drop (2 * pair_count es) d
  unfolding pairs_after
  written = ap (λ (o : Outcome). after o (pair_bytes es ++ drop (2 * pair_count es) d) d) (passed bw es (length d) z)

  pub after_reported : Reported bw es (pair_count es) (pairs_after bw es d)
  after_reported =
      front_reported bw es (pair_count es) (pair_bytes es) (pairs_after bw es d)
      (λ i l. ap (λ (v : List ℕ). at v i) written ∙ get_or-append (pair_bytes es) _ 0 i (omega (arith, (worked bw es).two_each)))
      (pairs_are bw es (length d) z)

  pub past_kept : drop (2 * pair_count es) (pairs_after bw es d) ≡ drop (2 * pair_count es) d
  past_kept = ap (drop (2 * pair_count es)) written ∙ rw (← (worked bw es).two_each) (drop-append_seam (pair_bytes es) (drop (length (pair_bytes es)) d))

-- "nothing written"
pub pairs_kept : (bw : ℕ) (es d : List ℕ) → ((overlaps_answer bw es (length d)).number ≡ 0 → ⊥) → pairs_after bw es d ≡ d
unfolding overlaps_answer pairs_after
pairs_kept bw es d n =
    after_answered (overlaps_outcome bw es (length d)) (pair_count es) _ (pair_bytes es ++ drop (2 * pair_count es) d) d refl n
