-- What a call has written, if that is known.
use Rattle.std.specs.Prelude.{◌≡◌, ℕ, List, Option, Result, OnOk, OnErr, flat_map}
use Rattle.std.specs.Borrow.{Bor}
use Rattle.std.specs.Io.KnownBytes.{Appends}
use Rattle.office_mail.specs.Bag.{IsPrefixOf}
use Rattle.office_mail.specs.Counts.{HasRisen}
use Rattle.office_mail.specs.declared.feed.Sink.{Ghosts}

-- a prefix of these bytes was written
pub record AppendsFront (old new : Option (List ℕ)) (bytes : List ℕ) : Type 0 where
  pub front : List ℕ
  pub begins : IsPrefixOf front bytes
  pub took : Appends old new front

-- all of these bytes were written, or a prefix of them by a writer that failed
pub record Writes {W T E : Type 0} (sink : Ghosts W) (old new : W) (bytes : List ℕ) (result : Result T E) : Type 0 where
  pub ok : OnOk result (Appends (sink.written old) (sink.written new) bytes)
  pub err : OnErr result (AppendsFront (sink.written old) (sink.written new) bytes)
  pub cause : OnErr result (HasRisen (sink.failures old) (sink.failures new))
  pub clean : OnOk result (sink.failures new ≡ sink.failures old)

-- the bytes of parts, one after another
abbrev pub joined : List (Bor (List ℕ)) → List ℕ
joined parts = flat_map (λ part. part.now) parts
