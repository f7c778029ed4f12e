-- Any two results, and any two states of a lent channel, that a public function's contract allows for one input agree.
use mathlib.Core.Path.{◌≡◌, sym, ◌∙◌}
use mathlib.Core.List.{List}
use Prim.Native.Nat.{ℕ}
use lib.ListN.{length}
use Rattle.candidate.specs.Engine.{Made}
use Rattle.answer.proofs.Agree.{Agrees}
use Rattle.candidate.proofs.first_part.Reads as first_part
use Rattle.candidate.proofs.second_part.Reads as second_part
use Rattle.candidate.proofs.bytes_for.Reads as bytes_for
use Rattle.candidate.proofs.build.Reads as build

pub first_part_agrees : Agrees first_part.Post
first_part_agrees κs a r r' s s' p q = p.1 ∙ sym q.1

pub second_part_agrees : Agrees second_part.Post
second_part_agrees κs a r r' s s' p q = p.1 ∙ sym q.1

pub bytes_for_agrees : Agrees bytes_for.Post
bytes_for_agrees κs a r r' s s' p q = p.0 ∙ sym q.0

-- where there is a channel of these parts and fields
pub build_agrees : (κs : _) (a : _) (r r' : _) (s s' : _) → build.Post κs a r s → build.Post κs a r' s' → (t : List ℕ) → length t ≡ length a.0.now
    → Made a.1.0 a.1.1.0 a.1.1.1.0 a.1.1.1.1.0.now t → s.0.now ≡ s'.0.now
build_agrees κs a r r' s s' p q t l m = p t l m ∙ sym (q t l m)
