-- The answers 2 to 6, 9 and 10 (01, "What comes back"), each of one channel but 5, to be chained in the table's order:
-- "inside one, channel 1 first, lowest bit first".
use Rattle.std.specs.Prelude.{ℕ, ◌+◌, ◌*◌, Bool, not, ◌&&◌, ◌||◌, List, length, ltb}
use Rattle.answer.specs.Answer.{no, refuse_if, ◌or◌}
use Rattle.answer.specs.Least.{least}
use Rattle.answer.specs.Answer.{Outcome}
use Rattle.answer.specs.declared.Refusal.TheVariants.{WrongLength, CommonFieldCut, WrongCommonCheck}
use Rattle.answer.specs.declared.Refusal.TheVariants.{WrongOverflow, ValueNotCarried, UserBlocksCut, WrongUserCheck}
use Rattle.bits.specs.Bits.{differs}
use Rattle.block.specs.Check.{right}
use Rattle.resource.specs.Values.{carried}
use Rattle.channel.specs.Layout.{present, ltf_symbols, first_bits, second_at, second_bits, has_second, common}
use Rattle.channel.specs.Layout.{subfields_in, value_at, value, count, block_at, blocks, covered, end_of}
use Rattle.channel.specs.Fields.{named_fields}
use Rattle.faults.specs.RanOut.{ran_out_at}

-- 2: "a channel over 512 bytes, or channel 2 not empty at 20 MHz | that channel, 0"
unfoldable pub too_long : ℕ → ℕ → List ℕ → Outcome
too_long bw c s = refuse_if (ltb 512 (length s) || (not (present bw c) && ltb 0 (length s))) (WrongLength c)

-- 3: "common field cut short | channel, ..", and the place is where its bits ran out (02, T-03): among the fields of a channel with no User field
abbrev pub short_common : ℕ → ℕ → List ℕ → Bool
short_common bw c s = present bw c && ltb (8 * length s) (common bw)

unfoldable pub cut_common : ℕ → ℕ → List ℕ → Outcome
cut_common bw c s = refuse_if (short_common bw c s) (CommonFieldCut c (ran_out_at s (named_fields bw 0)))

-- 4: "common check or tail wrong | channel, first check bit"
unfoldable pub wrong_first : ℕ → ℕ → List ℕ → Bool
wrong_first bw c s = present bw c && not (right s 0 (first_bits bw))

unfoldable pub wrong_second : ℕ → ℕ → List ℕ → Bool
wrong_second bw c s = present bw c && has_second bw && not (right s (second_at bw) (second_bits bw))

unfoldable pub wrong_common : ℕ → ℕ → List ℕ → Outcome
wrong_common bw c s =
    refuse_if (wrong_first bw c s) (WrongCommonCheck c (first_bits bw))
    or refuse_if (wrong_second bw c s) (WrongCommonCheck c (second_at bw + second_bits bw))

-- 5: "channel 1's LTF symbols 5 to 7, else overflow differs | 1, 6; else 2, lowest differing bit". All 17 bits are
-- compared: "5 compares Disregard too". At 20 MHz there is no second channel to differ.
unfoldable pub overflow_differs : ℕ → List ℕ → List ℕ → Outcome
overflow_differs bw a b =
    refuse_if (ltb 4 (ltf_symbols a)) (WrongOverflow 1 6)
    or refuse_if (present bw 2 && ltb (least (differs a b) 17) 17) (WrongOverflow 2 (least (differs a b) 17))

-- 6: "value not carried | channel, its first bit"
unfoldable pub uncarried : ℕ → List ℕ → ℕ → Bool
uncarried bw s k = not (carried (value bw s k))

unfoldable pub first_uncarried : ℕ → ℕ → List ℕ → ℕ
first_uncarried bw c s = least (uncarried bw s) (subfields_in bw c)

unfoldable pub not_carried : ℕ → ℕ → List ℕ → Outcome
not_carried bw c s =
    refuse_if (ltb (first_uncarried bw c s) (subfields_in bw c)) (ValueNotCarried c (value_at bw (first_uncarried bw c s)))

-- 9: "User blocks cut short | channel, ..", and the place is where the bits ran out (02, T-03); n is the channel's number of fields
abbrev pub short_users : ℕ → ℕ → List ℕ → Bool
short_users bw n s = ltb 0 n && ltb (8 * length s) (end_of bw n)

unfoldable pub cut_users : ℕ → ℕ → List ℕ → Outcome
cut_users bw c s = refuse_if (short_users bw (count bw c s) s) (UserBlocksCut c (ran_out_at s (named_fields bw (count bw c s))))

-- 10: "User check or tail wrong | channel, first check bit"; n is the channel's number of fields
unfoldable pub wrong_block : ℕ → List ℕ → ℕ → ℕ → Bool
wrong_block bw s n b = not (right s (block_at bw b) (covered n b))

unfoldable pub first_wrong : ℕ → List ℕ → ℕ → ℕ
first_wrong bw s n = least (wrong_block bw s n) (blocks n)

unfoldable pub wrong_users_of : ℕ → ℕ → List ℕ → ℕ → Outcome
wrong_users_of bw c s n =
    refuse_if (ltb (first_wrong bw s n) (blocks n)) (WrongUserCheck c (block_at bw (first_wrong bw s n) + covered n (first_wrong bw s n)))

unfoldable pub wrong_users : ℕ → ℕ → List ℕ → Outcome
wrong_users bw c s = wrong_users_of bw c s (count bw c s)
