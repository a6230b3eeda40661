-- Facts that stand for a set, with one more message.
use Rattle.std.specs.Prelude.{ℕ, Bool, cond, List, [], ◌∷◌, Contains, Some, None}
use Rattle.std.proofs.Common.{◌≡◌, refl, sym, ap, ◌∙◌, subst, inl, inr}
use Rattle.testing_rules_model.specs.Suite.{Suite}
use Rattle.testing_rules_model.specs.FactLists.{FactLists}
use Rattle.testing_rules_model.specs.StandsFor.{StandsFor}
use Rattle.testing_rules_model.specs.Covered.{Covered, uploads_in, builds_in, drops_in, bugs_in, placed_from, upload_of}
use Rattle.testing_rules_model.specs.Unstable.{is_above_drops}
use Rattle.testing_rules_items.specs.declared.item.Item.{Item}
use Rattle.testing_rules_items.specs.declared.item.Item.TheVariants as item
use Rattle.testing_rules_fact_order.specs.declared.entry.FactUpdate.{FactUpdate}
use Rattle.testing_rules_fact_order.specs.declared.entry.FactUpdate.TheVariants as entry
use Rattle.testing_rules_model.specs.declared.facts.UploadIn.{UploadIn}
use Rattle.testing_rules_model.specs.declared.facts.BuildIn.{BuildIn}
use Rattle.testing_rules_model.specs.declared.facts.DropIn.{DropIn}
use Rattle.testing_rules_model.specs.declared.facts.BugIn.{BugIn}
use Rattle.testing_rules_model.specs.declared.facts.HintIn.{HintIn}
use Rattle.testing_rules_model.specs.declared.facts.UnhintIn.{UnhintIn}
use Rattle.testing_rules_model.specs.declared.facts.DelaysIn.{DelaysIn}
use Rattle.testing_rules_model.specs.WithMessage.{with_upload, with_drop, with_greatest, with_build, with_builds, with_bug, with_hint, with_unhint, with_delays}
use Rattle.testing_rules_model.specs.steps.WithMessage.{stands_beside}
use Rattle.testing_rules_facts.specs.steps.Entries.{entry_of, with_entry}
use Rattle.testing_rules_model.proofs.MoreMail.{sources-more, drops-more, bugs-more, rows-drop, rows-build}
use Rattle.testing_rules_model.proofs.GreatestDrops.{greatest-decide}
use Rattle.testing_rules_model.proofs.Sets.{first_or_rest, at_front}
use Rattle.testing_rules_items.proofs.Members.{tail_of}
use Rattle.testing_rules_fact_order.specs.Uploads.{with_kept}
use Rattle.testing_rules_facts.proofs.KeptUploads.{kept_from, kept_own, kept_others}

-- builds that stand by two tests alike
builds-same : (p q : BuildIn → Bool) → ((b : BuildIn) → p b ≡ q b) → (bs rows : List BuildIn) → with_builds p bs rows ≡ with_builds q bs rows
builds-same p q same [] rows = refl
builds-same p q same (b ∷ bs) rows =
    ap (λ r. cond (p b) (with_build b r) r) (builds-same p q same bs rows) ∙ ap (λ c. cond c (with_build b (with_builds q bs rows)) (with_builds q bs rows)) (same b)

module _ (old : FactLists) (s : Covered) (t : Suite) (h : StandsFor old s t) (n k : ℕ) where
  abbrev with_item : Item → FactLists
  with_item i = with_entry (entry_of (record { sender = n; number = k; item = i })) old

  abbrev one_more : Item → Covered
  one_more i = record { sender = n; number = k; item = i } ∷ s

  -- what the kind of the message leaves is as it was
  pub joins : (i : Item) → StandsFor (with_item i) (one_more i) t
  joins (item.Upload source version urgency day) =
      let u : UploadIn = record { source = source; version = version; urgency = urgency; day = day; sender = n; number = k } in
      record {
        sources = ap (with_upload u) h.sources ∙ sym (sources-more u (uploads_in s));
        rows = h.rows;
        drops = h.drops;
        bugs = h.bugs;
        hints = h.hints;
        unhints = h.unhints;
        delays = h.delays;
        are_uploads = λ v c. elim (kept_from u v old.uploads c) [
          | inl e ↦ at_front u v (uploads_in s) e
          | inr among ↦ tail_of u (uploads_in s) v (h.are_uploads v among)
        ];
        counted = λ v c news. elim (first_or_rest u (uploads_in s) v c) [
          | inl e ↦ subst (λ w. Contains (with_kept u old.uploads) w) e (kept_own u old.uploads)
          | inr among ↦ kept_others u v old.uploads (h.counted v among news)
        ];
      }
  joins (item.Dropped name arch version) =
      let d : DropIn = record { name = name; arch = arch; version = version; sender = n; number = k } in
      record {
        rows = ap (with_drop d) h.rows ∙ sym (rows-drop (is_above_drops s) d (builds_in s));
        drops = ap (with_greatest d) h.drops ∙ sym (drops-more d (drops_in s));
        sources = h.sources;
        bugs = h.bugs;
        hints = h.hints;
        unhints = h.unhints;
        delays = h.delays;
        are_uploads = h.are_uploads;
        counted = h.counted;
      }
  joins (item.Build binaries) =
      let bs : List BuildIn = placed_from 1 n k binaries in
      record {
        rows = builds-same (stands_beside old.drops) (is_above_drops s) (λ b. ap (λ ds. stands_beside ds b) h.drops ∙ greatest-decide b (drops_in s)) bs old.rows
            ∙ ap (with_builds (is_above_drops s) bs) h.rows
            ∙ sym (rows-build (is_above_drops s) bs (builds_in s));
        sources = h.sources;
        drops = h.drops;
        bugs = h.bugs;
        hints = h.hints;
        unhints = h.unhints;
        delays = h.delays;
        are_uploads = h.are_uploads;
        counted = h.counted;
      }
  joins (item.Bug bug source severity found fixed) =
      let b : BugIn = record { bug = bug; source = source; severity = severity; found = found; fixed = fixed; sender = n; number = k } in
      record {
        bugs = ap (with_bug b) h.bugs ∙ sym (bugs-more b (bugs_in s));
        sources = h.sources;
        rows = h.rows;
        drops = h.drops;
        hints = h.hints;
        unhints = h.unhints;
        delays = h.delays;
        are_uploads = h.are_uploads;
        counted = h.counted;
      }
  joins (item.Hint hint) =
      let x : HintIn = record { hint = hint; sender = n; number = k } in
      record {
        hints = ap (with_hint x) h.hints;
        sources = h.sources;
        rows = h.rows;
        drops = h.drops;
        bugs = h.bugs;
        unhints = h.unhints;
        delays = h.delays;
        are_uploads = h.are_uploads;
        counted = h.counted;
      }
  joins (item.Unhint cancels) =
      let x : UnhintIn = record { cancels = cancels; sender = n; number = k } in
      record {
        unhints = ap (with_unhint x) h.unhints;
        sources = h.sources;
        rows = h.rows;
        drops = h.drops;
        bugs = h.bugs;
        hints = h.hints;
        delays = h.delays;
        are_uploads = h.are_uploads;
        counted = h.counted;
      }
  joins (item.Delays low medium high critical) =
      let x : DelaysIn = record { delays = record { low = low; medium = medium; high = high; critical = critical }; sender = n; number = k } in
      record {
        delays = ap (with_delays x) h.delays;
        sources = h.sources;
        rows = h.rows;
        drops = h.drops;
        bugs = h.bugs;
        hints = h.hints;
        unhints = h.unhints;
        are_uploads = h.are_uploads;
        counted = h.counted;
      }
  joins item.Nothing = record {
    sources = h.sources;
    rows = h.rows;
    drops = h.drops;
    bugs = h.bugs;
    hints = h.hints;
    unhints = h.unhints;
    delays = h.delays;
    are_uploads = h.are_uploads;
    counted = h.counted;
  }

-- no entry drops an upload
pub keeps : (e : FactUpdate) (f : FactLists) (u : UploadIn) → Contains f.uploads u → Contains (with_entry e f).uploads u
keeps (entry.Upload v) f u c = kept_others v u f.uploads c
keeps (entry.Dropped d) f u c = c
keeps (entry.Build bs) f u c = c
keeps (entry.Bug b) f u c = c
keeps (entry.Hint x) f u c = c
keeps (entry.Unhint x) f u c = c
keeps (entry.Delays x) f u c = c
keeps entry.Nothing f u c = c

-- and an upload's own is there
pub is_there : (f : FactLists) (n k : ℕ) (i : Item) (u : UploadIn) → upload_of (record { sender = n; number = k; item = i }) ≡ Some u
    → Contains (with_entry (entry_of (record { sender = n; number = k; item = i })) f).uploads u
is_there f n k (item.Upload source version urgency day) u e =
    let v : UploadIn = record { source = source; version = version; urgency = urgency; day = day; sender = n; number = k } in
    let same : v ≡ u = cc in
    subst (λ w. Contains (with_kept v f.uploads) w) same (kept_own v f.uploads)
is_there f n k (item.Dropped name arch version) u e = let no : None ≡ Some u = e in cc
is_there f n k (item.Build binaries) u e = let no : None ≡ Some u = e in cc
is_there f n k (item.Bug bug source severity found fixed) u e = let no : None ≡ Some u = e in cc
is_there f n k (item.Hint hint) u e = let no : None ≡ Some u = e in cc
is_there f n k (item.Unhint cancels) u e = let no : None ≡ Some u = e in cc
is_there f n k (item.Delays low medium high critical) u e = let no : None ≡ Some u = e in cc
is_there f n k item.Nothing u e = let no : None ≡ Some u = e in cc
