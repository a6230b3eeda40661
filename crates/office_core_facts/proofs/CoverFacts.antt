-- What orders cover.
use Rattle.std.proofs.Common.{◌≡◌, ℕ, List, [], ◌∷◌, max, slice_index, refl, arith}
use Rattle.office_mail.specs.declared.message.RunOrder.{RunOrder}
use Rattle.office_mail.specs.Runs.{cover_of}

-- no order covers anything, and one more order covers the greater number
pub cover_of-none : (sender : ℕ) → cover_of [] sender ≡ 0
unfolding cover_of
cover_of-none sender = refl

pub cover_of-more : (order : RunOrder) (orders : List RunOrder) (sender : ℕ) → cover_of (order ∷ orders) sender ≡ max (slice_index order.covers sender) (cover_of orders sender)
unfolding cover_of
cover_of-more order orders sender = refl

pub max_of_three : (a b n : ℕ) → max (max a b) n ≡ max a (max b n)
max_of_three a b n = omega arith
