-- Any two results that a public function's contract allows for one input agree: each contract says its whole result.
use mathlib.Core.Path.{◌≡◌, sym, ap, ◌∙◌}
use Prim.Native.Nat.{ℕ}
use mathlib.Core.List.{List}
use seplogic.Ra.Ura.{Ura}
use base.Logic.{SProp, ent, sep, fst∗, snd∗, id⊢}
use prog.Memory.{Memory}
use prog.Routine.{Routine}
use types.Logic.{Logic}
use contract.Monad.{Fun, fact, fact_use, fact_i}
use denote.Ref.{Bor}
use Rattle.answer.proofs.Agree.{Agrees}
use Rattle.position.specs.declared.Position.{Position}
use Rattle.position.proofs.read_at.Reads as read_at
use Rattle.position.proofs.left_at.Reads as left_at
use Rattle.position.proofs.common_at.Reads as common_at
use Rattle.position.proofs.blocks_at.Reads as blocks_at
use Rattle.position.proofs.walk.Reads as walk
use Rattle.position.specs.contracts.start as start
use Rattle.position.specs.contracts.read as read
use Rattle.position.specs.contracts.moved as moved
use Rattle.position.specs.contracts.left as left
use Rattle.position.specs.contracts.common as common
use Rattle.position.specs.contracts.after as after
use Rattle.position.specs.contracts.blocks as blocks
use Rattle.position.specs.contracts.walk_through as walk_through

-- ---- over plain bytes and a bit number
pub read_at_agrees : Agrees read_at.Post
read_at_agrees κs a r r' s s' p q = p ∙ sym q

pub left_at_agrees : Agrees left_at.Post
left_at_agrees κs a r r' s s' p q = p ∙ sym q

pub common_at_agrees : Agrees common_at.Post
common_at_agrees κs a r r' s s' p q = p ∙ sym q

pub blocks_at_agrees : Agrees blocks_at.Post
blocks_at_agrees κs a r r' s s' p q = p ∙ sym q

pub walk_agrees : Agrees walk.Post
walk_agrees κs a r r' s s' p q = p ∙ sym q

-- ---- through a position: what the contract says of one result and of another, at any exits, together say that they are one
same : (p p' : Position) → p.channel ≡ p'.channel → p.bit ≡ p'.bit → p ≡ p'
same p p' e f =
    ap (λ (x : Bor (List ℕ)). record { channel = x; bit = p.bit }) e ∙ ap (λ (n : ℕ). record { channel = p'.channel; bit = n }) f

module _ {M : Type 1} {𝓤 : Ura M} (𝓛 : Logic 𝓤) (mem : Memory → SProp 𝓤) (run : Routine → Fun 𝓤) where
  both : {φ ψ χ : Type 0} → (φ → ψ → χ) → ent 𝓤 (sep 𝓤 (fact 𝓤 φ) (fact 𝓤 ψ)) (fact 𝓤 χ)
  both {φ} {ψ} {χ} h =
      fact_use 𝓤 φ (fst∗ 𝓤 (fact 𝓤 φ) (fact 𝓤 ψ)) (λ x. fact_use 𝓤 ψ (snd∗ 𝓤 (fact 𝓤 φ) (fact 𝓤 ψ)) (λ y. fact_i 𝓤 χ (sep 𝓤 (fact 𝓤 φ) (fact 𝓤 ψ)) (h x y)))

  -- two results that E allows, each with its exits, are one
  abbrev One : {R X : Type 0} → (R → X → SProp 𝓤) → Type 1
  One E = (r r' : _) (x x' : _) → ent 𝓤 (sep 𝓤 (E r x) (E r' x')) (fact 𝓤 (r ≡ r'))

  pub start_agrees : (κs : _) (a : _) → One ((start.clauses 𝓛 mem run κs a).ensures tt)
  start_agrees κs a r r' x x' = both (λ e f. same r r' (e.0 ∙ sym f.0) (e.1 ∙ sym f.1))

  pub read_agrees : (κs : _) (a : _) → One ((read.clauses 𝓛 mem run κs a).ensures tt)
  read_agrees κs a r r' x x' = both (λ e f. e ∙ sym f)

  pub moved_agrees : (κs : _) (a : _) → One ((moved.clauses 𝓛 mem run κs a).ensures tt)
  moved_agrees κs a r r' x x' = both (λ e f. same r r' (e.0 ∙ sym f.0) (e.1 ∙ sym f.1))

  pub left_agrees : (κs : _) (a : _) → One ((left.clauses 𝓛 mem run κs a).ensures tt)
  left_agrees κs a r r' x x' = both (λ e f. e ∙ sym f)

  pub common_agrees : (κs : _) (a : _) → One ((common.clauses 𝓛 mem run κs a).ensures tt)
  common_agrees κs a r r' x x' = both (λ e f. e ∙ sym f)

  pub after_agrees : (κs : _) (a : _) → One ((after.clauses 𝓛 mem run κs a).ensures tt)
  after_agrees κs a r r' x x' = both (λ e f. same r r' (e.0 ∙ sym f.0) (e.1 ∙ sym f.1))

  pub blocks_agrees : (κs : _) (a : _) → One ((blocks.clauses 𝓛 mem run κs a).ensures tt)
  blocks_agrees κs a r r' x x' = both (λ e f. e ∙ sym f)

  pub walk_through_agrees : (κs : _) (a : _) → One ((walk_through.clauses 𝓛 mem run κs a).ensures tt)
  walk_through_agrees κs a r r' x x' = both (λ e f. e ∙ sym f)

  -- and the walk through a position comes to what the walk over plain bytes does
  pub walks_agree : (κs : _) (a : _) (r r' : _) (s : _) (x : _) → walk.Post κs a r s
      → ent 𝓤 ((walk_through.clauses 𝓛 mem run κs a).ensures tt r' x) (fact 𝓤 (r ≡ r'))
  walks_agree κs a r r' s x p = fact_use 𝓤 _ (id⊢ 𝓤 _) (λ e. fact_i 𝓤 _ _ (p ∙ sym e))
