-- An entry of a list is 40 of its bits, and the first that is refused speaks for the list.
use mathlib.Core.Path.{◌≡◌, refl, sym, ◌∙◌, ap}
use mathlib.Core.Logic.{⊎_elim}
use mathlib.Core.Bool.{Bool, ◌&&◌}
use mathlib.Core.List.{List}
use Prim.Native.Nat.{ℕ, zero, suc, ◌+◌, ◌*◌, ◌/◌, ◌%◌, ◌<◌}
use native.Mathlib.Omega.{arith}
use native.Mathlib.Nat.{eq-or-lt_of_le}
use native.Mathlib.Numerals.{add-one}
use lib.ListN.{get_or, take, drop}
use lib.Seq.{get_or-take, get_or-drop}
use Rattle.answer.specs.Answer.{no, ◌or◌, passes, of_entry}
use Rattle.answer.specs.declared.Answer.{Answer}
use Rattle.answer.specs.Answer.{Outcome}
use Rattle.std.specs.Prelude.{Ok, Err}
use Rattle.answer.proofs.Order.{or_pass, or_refuse, or_next}
use Rattle.answer.specs.declared.Refusal.{Refusal}
use Rattle.bits.specs.Bits.{bit, field}
use Rattle.bits.proofs.Fields.{field_ext}
use Rattle.trigger_values.specs.UserInfo.{part}
use Rattle.trigger.specs.Reading.{info_outcome}
use Rattle.overlaps.specs.Overlaps.{info_at}
use Rattle.masks.specs.Engine.{mask_of}
use Rattle.overlaps.specs.Engine.{mask_at}
use Rattle.overlaps.specs.Result.{placed, entries_outcome}

pub info_field : (es : List ℕ) (i : ℕ) → info_at es i ≡ field es (40 * i) 40
unfolding info_at bit
info_field es i = field_ext (take 5 (drop (5 * i) es)) es 0 (40 * i) 40 same
  where
    same : (k : ℕ) → k < 40 → bit (take 5 (drop (5 * i) es)) (0 + k) ≡ bit es (40 * i + k)
    same k l =
        let e : 5 * i + (0 + k) / 8 ≡ (40 * i + k) / 8 = omega arith in
        let f : (0 + k) % 8 ≡ (40 * i + k) % 8 = omega arith in
        let g : get_or (take 5 (drop (5 * i) es)) ((0 + k) / 8) 0 ≡ get_or es ((40 * i + k) / 8) 0 =
        get_or-take 5 (drop (5 * i) es) ((0 + k) / 8) 0 (omega arith) ∙ get_or-drop (5 * i) es ((0 + k) / 8) 0 ∙ ap (λ (z : ℕ). get_or es z 0) e in
        rw (g, f)

-- passed together is passed each
passes_or : (a b : Outcome) → passes (a or b) ≡ (passes a && passes b)
passes_or (Ok u) b = refl
passes_or (Err x) b = refl

passes_placed : (p : ℕ) (o : Outcome) → passes (placed p o) ≡ passes o
passes_placed p (Ok u) = refl
passes_placed p (Err x) = refl

-- ---- entry i, of which the code has the 40 bits x
module _ (bw : ℕ) (es : List ℕ) (i x : ℕ) (e : x ≡ field es (40 * i) 40) where
  is_info : x ≡ info_at es i
  is_info = e ∙ sym (info_field es i)

  pub mask_at_lem : (v r : ℕ) → v ≡ part x 2 → r ≡ mask_of v → r ≡ mask_at es i
  unfolding mask_at
  mask_at_lem v r p q = q ∙ ap mask_of (p ∙ ap (λ (y : ℕ). part y 2) is_info)

  -- it passes as those before it do
  pub entries_step : entries_outcome bw es i ≡ Ok tt → info_outcome bw x ≡ Ok tt → entries_outcome bw es (i + 1) ≡ Ok tt
  unfolding entries_outcome
  entries_step p q =
      let f : info_outcome bw (info_at es i) ≡ Ok tt = ap (info_outcome bw) (sym is_info) ∙ q in
      rw (add-one i) (or_pass (entries_outcome bw es i) (placed (suc i) (info_outcome bw (info_at es i))) p (ap (placed (suc i)) f))

  pub read_step : (b r : Bool) → b ≡ passes (entries_outcome bw es i) → r ≡ passes (info_outcome bw x) → (b && r) ≡ passes (entries_outcome bw es (i + 1))
  unfolding entries_outcome
  read_step b r p q =
      let o = info_outcome bw (info_at es i) in
      let f : r ≡ passes (placed (suc i) o) = q ∙ ap (λ (y : ℕ). passes (info_outcome bw y)) is_info ∙ sym (passes_placed (suc i) o) in
      rw (add-one i, p, f) (sym (passes_or (entries_outcome bw es i) (placed (suc i) o)))

  -- it is refused, the first of n
  pub entries_stop : (n : ℕ) (y : Refusal) → i < n → entries_outcome bw es i ≡ Ok tt → info_outcome bw x ≡ Err y
      → entries_outcome bw es n ≡ Err (of_entry (i + 1) y)
  unfolding entries_outcome
  entries_stop zero y l p q = absurd (omega arith)
  entries_stop (suc n) y l p q =
      ⊎_elim
      (λ (f : i ≡ n).
      let o = info_outcome bw (info_at es n) in
      let g : entries_outcome bw es n ≡ Ok tt = ap (entries_outcome bw es) (sym f) ∙ p in
      let r : o ≡ Err y = ap (λ (k : ℕ). info_outcome bw (info_at es k)) (sym f) ∙ ap (info_outcome bw) (sym is_info) ∙ q in
      let s : suc n ≡ i + 1 = omega arith in
      or_next (entries_outcome bw es n) (placed (suc n) o) g ∙ ap (placed (suc n)) r ∙ ap (λ (k : ℕ). Err (of_entry k y)) s)
      (λ (m : i < n). or_refuse (entries_outcome bw es n) _ _ (entries_stop n y m p q))
      (eq-or-lt_of_le {n = i} {m = n} (omega arith))
