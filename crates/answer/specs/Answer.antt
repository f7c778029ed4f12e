-- What a call answers: 01's number and values for every outcome of its checks.
--
-- 01, "The form each place needs": "Any answer that is an enum has a definition. The definition gives this paper's
-- number and values for each of the enum's cases, and the promises use it."
-- 01, "What comes back": "Every refusal writes nothing and returns number, channel, place."
use Rattle.std.specs.Prelude.{Bool, true, false, ℕ, Result, Ok, Err}
use Rattle.answer.specs.declared.Answer.{Answer}
use Rattle.answer.specs.declared.Refusal.{Refusal}
use Rattle.answer.specs.declared.Refusal.TheVariants.{UnknownBandwidth, WrongLength, CommonFieldCut, WrongCommonCheck, WrongOverflow}
use Rattle.answer.specs.declared.Refusal.TheVariants.{ValueNotCarried, NoPlan, OverEightFields, UserBlocksCut, WrongUserCheck}
use Rattle.answer.specs.declared.Refusal.TheVariants.{StationTwice, TooFewWords, NoFrameReads, TooFewBytes, NotWholeEntries}
use Rattle.answer.specs.declared.Refusal.TheVariants.{ReservedBitSet, NotNamed, NoSuchStreams, BufferTooShort, OtherLayout}
use Rattle.answer.specs.declared.Refusal.TheVariants.{TooManyEntries, TooFewPairs}

-- number, channel, place
abbrev pub no : ℕ → ℕ → ℕ → Answer
no n c p = record { number = n; channel = c; place = p }

-- number, channel and place of each refusal, a line for each row of the table
abbrev pub answer_of : Refusal → Answer
answer_of UnknownBandwidth = no 1 0 0
answer_of (WrongLength c) = no 2 c 0
answer_of (CommonFieldCut c p) = no 3 c p
answer_of (WrongCommonCheck c p) = no 4 c p
answer_of (WrongOverflow c p) = no 5 c p
answer_of (ValueNotCarried c p) = no 6 c p
answer_of (NoPlan s) = no 7 0 s
answer_of (OverEightFields s) = no 8 0 s
answer_of (UserBlocksCut c p) = no 9 c p
answer_of (WrongUserCheck c p) = no 10 c p
answer_of (StationTwice c p) = no 11 c p
answer_of (TooFewWords n) = no 12 0 n
answer_of NoFrameReads = no 13 0 0
answer_of (TooFewBytes c n) = no 14 c n
answer_of NotWholeEntries = no 15 0 0
answer_of (ReservedBitSet e) = no 16 0 e
answer_of (NotNamed e) = no 17 0 e
answer_of NoSuchStreams = no 21 0 0
answer_of (BufferTooShort n) = no 23 0 n
answer_of (OtherLayout e) = no 24 0 e
answer_of TooManyEntries = no 25 0 0
answer_of TooFewPairs = no 26 0 0

-- A refusal of an entry alone, and with its number in a list.
abbrev pub of_entry : ℕ → Refusal → Refusal
of_entry e (ReservedBitSet f) = ReservedBitSet e
of_entry e (NotNamed f) = NotNamed e
of_entry e (OtherLayout f) = OtherLayout e
of_entry e x = x

-- What checks come to: nothing, or why they refuse.
abbrev pub Outcome : Type 0
Outcome = Result Unit Refusal

-- One check: it refuses with x "exactly when" its test holds.
abbrev pub refuse_if : {E : Type 0} → Bool → E → Result Unit E
refuse_if true x = Err x
refuse_if false x = Ok tt

-- "(nothing earlier applies)": the first of two that refuses.
infixl 20 ◌or◌
abbrev pub ◌or◌ : {E : Type 0} → Result Unit E → Result Unit E → Result Unit E
(Ok u) or b = b
(Err x) or b = Err x

-- The answer of an outcome: passed, "0 | accepted | 0, count"; refused, the refusal's own number, channel and place.
abbrev pub answer_at : Outcome → ℕ → Answer
answer_at (Ok u) n = no 0 0 n
answer_at (Err x) n = answer_of x

-- A lent buffer afterwards: passed, its new contents; "Every refusal writes nothing": as it was.
abbrev pub after : {A : Type 0} → Outcome → A → A → A
after (Ok u) new old = new
after (Err x) new old = old

-- Whether an outcome is no refusal.
abbrev pub passes : Outcome → Bool
passes (Ok u) = true
passes (Err x) = false
