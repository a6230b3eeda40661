-- The texts needed by a run that have come, before anything is known of what is kept.
use Rattle.std.specs.Prelude.{◌≡◌, ℕ, ◌≤◌, List}
use Rattle.std.specs.FinMap.{empty}
use Rattle.office_mail.specs.Kept.{Place, kept_from, place_of}
use Rattle.office_mail.specs.Laws.{Delivers, IsOneOf}
use Rattle.office_mail.specs.Lists.{Lists}
use Rattle.office_mail.specs.Runs.{cover, runs}
use Rattle.office_mail.specs.declared.message.Message.{Message}

-- one of these texts is a message of this sender and number
pub record Came (setup : Lists) (texts : List (List ℕ)) (p : Place) : Type 0 where
  pub text : List ℕ
  pub message : Message
  pub delivers : Delivers setup texts text message
  pub place : place_of message ≡ p

-- All that run k needs came: messages 1 to k of the runs' sender. Of each sender every number came from 1 to the cover
-- in the first texts of these orders.
pub record AllCame (setup : Lists) (texts : List (List ℕ)) (k : ℕ) : Type 0 where
  pub orders : (j : ℕ) → 1 ≤ j → j ≤ k → Came setup texts (runs setup, j)
  pub mail : (sender number : ℕ) → 1 ≤ number → number ≤ cover setup (kept_from setup empty texts) k sender → Came setup texts (sender, number)

-- each message sent came, and run orders 1 to k came with no text but the one sent; anything else may have come
pub record CameBeside (setup : Lists) (sent texts : List (List ℕ)) (k : ℕ) : Type 0 where
  pub each : (text : List ℕ) (m : Message) → Delivers setup sent text m → IsOneOf text texts
  pub orders : (t u : List ℕ) (m n : Message) → Delivers setup sent t m → Delivers setup texts u n → place_of m ≡ place_of n → m.sender ≡ runs setup → m.number ≤ k → t ≡ u
