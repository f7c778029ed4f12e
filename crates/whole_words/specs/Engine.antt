-- Engine: what can be refused before the words are looked at. The contracts of the code cite it; nobody has to believe it:
-- `brachymel/proofs/Early.antt`.
use Rattle.std.specs.Prelude.{not, ℕ, ◌%◌, ltb, eqb}
use Rattle.answer.specs.Answer.{no, refuse_if, ◌or◌}
use Rattle.answer.specs.Answer.{Outcome}
use Rattle.answer.specs.declared.Refusal.TheVariants.{UnknownBandwidth, NoFrameReads}

unfoldable pub early : ℕ → ℕ → ℕ → Outcome
early bw bytes n =
    refuse_if (ltb 4 bw) UnknownBandwidth or (refuse_if (not (eqb (bytes % 4) 0)) NoFrameReads or refuse_if (ltb 154 n) NoFrameReads)
