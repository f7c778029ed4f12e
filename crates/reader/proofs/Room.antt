-- What `then_room` comes to, by the form that the checks tell a refusal in: the refusal before or 12, told as the refusal itself or as its answer.
use mathlib.Core.Path.{◌≡◌, refl, ap, ◌∙◌}
use Prim.Native.Nat.{ℕ}
use Rattle.std.specs.Prelude.{Result, Ok, Err, OnErr, IfErr, IsErrAnd}
use Rattle.answer.specs.declared.Answer.{Answer}
use Rattle.answer.specs.declared.Refusal.{Refusal}
use Rattle.answer.specs.Answer.{Outcome, ◌or◌, answer_of}
use Rattle.reader.specs.Table.{no_room}

-- an outcome whose refusal is told by f
abbrev pub told : {E : Type 0} → (Refusal → E) → Outcome → Result Unit E
told f (Ok u) = Ok tt
told f (Err x) = Err (f x)

module _ {E : Type 0} (f : Refusal → E) where
  as_told : (o : Outcome) (r : Result Unit E) → (o ≡ Ok tt → r ≡ Ok tt) → IfErr o (λ x. IsErrAnd r (λ y. y ≡ f x)) → r ≡ told f o
  as_told (Ok u) r p q = p refl
  as_told (Err x) (Ok u) p q = absurd q
  as_told (Err x) (Err y) p q = ap Err q

  or_told : (o r : Result Unit E) (need m : ℕ) → OnErr o (r ≡ o) → (o ≡ Ok tt → no_room need m ≡ Ok tt → r ≡ Ok tt)
      → (o ≡ Ok tt → IfErr (no_room need m) (λ x. IsErrAnd r (λ y. y ≡ f x))) → r ≡ o or told f (no_room need m)
  or_told (Err x) r need m k p q = k
  or_told (Ok u) r need m k p q = as_told (no_room need m) r (p refl) (q refl)

told_itself : (o : Outcome) → told (λ x. x) o ≡ o
told_itself (Ok u) = refl
told_itself (Err x) = refl

-- of refusals
pub room_told : (o r : Outcome) (need room : ℕ) → OnErr o (r ≡ o) → (o ≡ Ok tt → no_room need room ≡ Ok tt → r ≡ Ok tt)
    → (o ≡ Ok tt → IfErr (no_room need room) (λ x. IsErrAnd r (λ y. y ≡ x))) → r ≡ o or no_room need room
room_told o r need m k p q = or_told (λ x. x) o r need m k p q ∙ ap (λ (z : Outcome). o or z) (told_itself (no_room need m))

-- of answers, whatever their number, channel and place
pub room_answered : (o r : Result Unit Answer) (need room : ℕ) → OnErr o (r ≡ o) → (o ≡ Ok tt → no_room need room ≡ Ok tt → r ≡ Ok tt)
    → (o ≡ Ok tt → IfErr (no_room need room) (λ x. IsErrAnd r (λ y. y ≡ answer_of x))) → r ≡ o or told answer_of (no_room need room)
room_answered o r need m k p q = or_told answer_of o r need m k p q
