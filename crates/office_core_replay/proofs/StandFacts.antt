-- What a replay leaves of the runs that were finished before.
use Rattle.std.proofs.Common.{◌≡◌, ◌⊎◌, ⊎_elim, ℕ, ◌≤◌, List, Option, Result, Ok, Err, IfOk, OnErr, refl, sym, ap, subst, arith}
use Rattle.office_mail.specs.Kept.{Within}
use Rattle.office_mail.specs.Lists.{Lists}
use Rattle.office_mail.specs.Reading.{Reading}
use Rattle.office_mail.proofs.KeptFacts.{kept_from-Within}
use Rattle.office_store_keeper.specs.declared.keeper.Keeper.{Ghosts}
use Rattle.office_core_replay.specs.declared.replays.Replayed.{Replayed}
use Rattle.office_core_replies.specs.declared.replies.Delivery.{Delivery}
use Rattle.office_mail.specs.declared.writer.WriteFault.{WriteFault}
use Rattle.office_core.specs.Preserves.{Preserves, Holds}
use Rattle.office_core_replay.specs.Delivered.{KeepsMail}
use Rattle.office_core.specs.Laws.{RunsStand}
use Rattle.office_core_replay.specs.Replay.{Replays, StopsReplay}
use Rattle.office_core_replies.specs.Replies.{not_lost}
use Rattle.office_core_facts.specs.OfficeState.{OfficeState}
use Rattle.office_core_facts.specs.State.{IsOffice, state_of}
use Rattle.office_core.proofs.LawFacts.{runs_stand}

-- nothing that was kept is gone, and no run that was finished
pub record Grows (before after : OfficeState) : Type 0 where
  pub kept : Within before.kept after.kept
  pub finished : before.finished ≤ after.finished

pub grows_same : (before after : OfficeState) → after ≡ before → Grows before after
grows_same before after e = record {
  kept = subst (λ (s : OfficeState). Within before.kept s.kept) (sym e) (λ p h. refl);
  finished = omega (arith, ap (λ (s : OfficeState). s.finished) e);
}

grows_keeps : (before after : OfficeState) (deliveries : List Delivery) → KeepsMail before after deliveries → Grows before after
grows_keeps before after deliveries k = record { kept = subst (Within before.kept) (sym k.kept) (kept_from-Within before.setup before.kept (not_lost deliveries)); finished = k.grows }

pub grows_replay : (before after : OfficeState) (start now : Reading) (w0 w1 : Option (List ℕ)) (r : Result Replayed WriteFault) (rose : Type 0) → IfOk r (λ replayed. Replays before after start now w0 w1 replayed rose) → OnErr r (StopsReplay before after start now w0 w1 rose) → Grows before after
grows_replay before after start now w0 w1 (Ok replayed) rose ok err = ⊎_elim (λ all. grows_keeps before after all.course.deliveries all.course.keeps) (λ none. grows_same before after none.same) ok
grows_replay before after start now w0 w1 (Err f) rose ok err = ⊎_elim
    (λ early. grows_keeps before after early.delivers.deliveries early.delivers.keeps)
    (λ late. ⊎_elim (λ front. grows_keeps before after front.course.deliveries front.course.keeps) (λ none. grows_same before after none.same) late)
    err

pub stand_after : {K : Type 0} (keeper : Ghosts K) (old new : K) → Preserves keeper old new → Holds keeper old new → Grows (state_of keeper old) (state_of keeper new) → RunsStand (keeper.content old) (keeper.content new)
stand_after keeper old new c h g = runs_stand (keeper.setup old) (keeper.content old) (keeper.content new) h.1.1
    (subst (λ (l : Lists). IsOffice l (keeper.content new)) c.setup (c.sound h.0 h.1).1) g.kept g.finished
