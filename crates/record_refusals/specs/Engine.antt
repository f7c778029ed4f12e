-- Engine: how the code finds the value of a record, and what it refuses of its numbers. The contracts of the code cite it; nobody has to
-- believe it: `trigger/specs/Worked.antt` says what it comes to.
use Rattle.std.specs.Prelude.{Bool, not, ◌&&◌, List, ℕ, ltb, eqb}
use Rattle.answer.specs.Answer.{no, refuse_if, ◌or◌}
use Rattle.answer.specs.Answer.{Outcome}
use Rattle.answer.specs.Lists.{at}
use Rattle.answer.specs.declared.Refusal.TheVariants.{UnknownBandwidth, NotNamed, BufferTooShort, OtherLayout}
use Rattle.trigger_values.specs.Values.{taken}
use Rattle.trigger_values.specs.Engine.{value_for}

-- ---- of a record's eight numbers w
unfoldable pub value_named : List ℕ → ℕ
value_named w = value_for (at w 1) (at w 2)

-- each but the resource's two fits its field
unfoldable pub fit : List ℕ → Bool
fit w = ltb (at w 0) 4096 && (ltb (at w 3) 2 && (ltb (at w 4) 16 && (ltb (at w 5) 2 && (ltb (at w 6) 64 && ltb (at w 7) 128))))

-- they read to a record of these numbers
unfoldable pub read_back : ℕ → List ℕ → Bool
read_back bw w = fit w && taken bw (value_named w)

-- the refusals of a record of n bytes by its numbers w, of which it has at least the first where this is not 0, into m bytes
unfoldable pub numbers_outcome : ℕ → ℕ → List ℕ → ℕ → Outcome
numbers_outcome bw n w m =
    refuse_if (ltb 2 bw) UnknownBandwidth
    or refuse_if (eqb (at w 0) 2007) (OtherLayout 0)
    or refuse_if (not (eqb n 32 && read_back bw w)) (NotNamed 0)
    or refuse_if (ltb m 5) (BufferTooShort 5)
