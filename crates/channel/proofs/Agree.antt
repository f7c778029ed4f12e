-- Any two results that a public function's contract allows for one input agree: each contract is an equation.
use mathlib.Core.Path.{◌≡◌, sym, ◌∙◌}
use Rattle.answer.proofs.Agree.{Agrees}
use Rattle.channel.proofs.is_present.Reads as is_present
use Rattle.channel.proofs.positions_of.Reads as positions_of
use Rattle.channel.proofs.firsts_of.Reads as firsts_of
use Rattle.channel.proofs.seconds_of.Reads as seconds_of
use Rattle.channel.proofs.first_bits.Reads as first_bits
use Rattle.channel.proofs.second_bits.Reads as second_bits
use Rattle.channel.proofs.second_at.Reads as second_at
use Rattle.channel.proofs.second_check.Reads as second_check
use Rattle.channel.proofs.has_second.Reads as has_second
use Rattle.channel.proofs.common_bits.Reads as common_bits
use Rattle.channel.proofs.subfields_of.Reads as subfields_of
use Rattle.channel.proofs.value_bit.Reads as value_bit
use Rattle.channel.proofs.value_of.Reads as value_of
use Rattle.channel.proofs.parts_of.Reads as parts_of
use Rattle.channel.proofs.put_row.Reads as put_row
use Rattle.channel.proofs.user_bit.Reads as user_bit
use Rattle.channel.proofs.block_bit.Reads as block_bit
use Rattle.channel.proofs.covered_bits.Reads as covered_bits
use Rattle.channel.proofs.end_bit.Reads as end_bit

pub is_present_agrees : Agrees is_present.Post
is_present_agrees κs a r r' s s' p q = p ∙ sym q

pub positions_of_agrees : Agrees positions_of.Post
positions_of_agrees κs a r r' s s' p q = p.0 ∙ sym q.0

pub firsts_of_agrees : Agrees firsts_of.Post
firsts_of_agrees κs a r r' s s' p q = p.0 ∙ sym q.0

pub seconds_of_agrees : Agrees seconds_of.Post
seconds_of_agrees κs a r r' s s' p q = p.0 ∙ sym q.0

pub first_bits_agrees : Agrees first_bits.Post
first_bits_agrees κs a r r' s s' p q = p.0 ∙ sym q.0

pub second_bits_agrees : Agrees second_bits.Post
second_bits_agrees κs a r r' s s' p q = p.0 ∙ sym q.0

pub second_at_agrees : Agrees second_at.Post
second_at_agrees κs a r r' s s' p q = p.0 ∙ sym q.0

pub second_check_agrees : Agrees second_check.Post
second_check_agrees κs a r r' s s' p q = p.0 ∙ sym q.0

pub has_second_agrees : Agrees has_second.Post
has_second_agrees κs a r r' s s' p q = p ∙ sym q

pub common_bits_agrees : Agrees common_bits.Post
common_bits_agrees κs a r r' s s' p q = p.0 ∙ sym q.0

pub subfields_of_agrees : Agrees subfields_of.Post
subfields_of_agrees κs a r r' s s' p q = p.0 ∙ sym q.0

pub value_bit_agrees : Agrees value_bit.Post
value_bit_agrees κs a r r' s s' p q = p ∙ sym q

pub value_of_agrees : Agrees value_of.Post
value_of_agrees κs a r r' s s' p q = p ∙ sym q

pub parts_of_agrees : Agrees parts_of.Post
parts_of_agrees κs a r r' s s' p q = p ∙ sym q

-- and any two states of the row lent
pub put_row_agrees : (κs : _) (a : _) (r r' : _) (s s' : _) → put_row.Post κs a r s → put_row.Post κs a r' s' → s.0.now ≡ s'.0.now
put_row_agrees κs a r r' s s' p q = p ∙ sym q

pub user_bit_agrees : Agrees user_bit.Post
user_bit_agrees κs a r r' s s' p q = p ∙ sym q

pub block_bit_agrees : Agrees block_bit.Post
block_bit_agrees κs a r r' s s' p q = p.0 ∙ sym q.0

pub covered_bits_agrees : Agrees covered_bits.Post
covered_bits_agrees κs a r r' s s' p q = p.0 ∙ sym q.0

pub end_bit_agrees : Agrees end_bit.Post
end_bit_agrees κs a r r' s s' p q = p.0 ∙ sym q.0
