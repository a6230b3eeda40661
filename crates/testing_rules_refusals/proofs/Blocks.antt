-- What is found of blocks, as what is promised of them.
use Rattle.std.proofs.Common.{◌≡◌, ℕ, ◌<◌, ◌⊎◌, ◌&&◌, ◌++◌, not, Bool, true, false, List, [], ◌∷◌, length, Some, refl, sym, ap, ◌∙◌, subst, inl, inr}
use Rattle.std.specs.Prelude.{Contains, map, filter}
use Rattle.std.specs.Borrow.{Bor}
use Rattle.std.specs.List.{slice_get, list_any}
use Rattle.std.specs.Str.{bytes_eq}
use Rattle.std.proofs.lemmas.Bool.{false≢true}
use Rattle.std.proofs.lemmas.List.Elements.{Contains-append_cases}
use Rattle.std.proofs.lemmas.Slice.Eq.{bytes_eq-Decides}
use Rattle.testing_rules_items.specs.Words.{Text}
use Rattle.testing_rules_model.specs.declared.excuse.Excuse.{Excuse}
use Rattle.testing_rules_model.specs.declared.facts.UploadIn.{UploadIn}
use Rattle.testing_rules_model.specs.declared.suite.RowIn.{RowIn}
use Rattle.testing_rules_model.specs.declared.update.Offender.{Offender}
use Rattle.testing_rules_model.specs.InOrder.{AreByKey}
use Rattle.testing_rules_model.specs.Moves.{RowAnswer, rows_on, judged_on, is_row_of, is_same_key, was_installable}
use Rattle.testing_rules_model.specs.steps.Moves.{is_row_on}
use Rattle.testing_rules_model.specs.Suite.{Suite}
use Rattle.testing_rules_model.specs.Updates.{is_remaining}
use Rattle.testing_rules_model.proofs.Least.{from_filter, to_filter}
use Rattle.testing_rules_model.proofs.MoreMail.{filter-same}
use Rattle.testing_rules_excuses.specs.States.{is_current_in}
use Rattle.testing_rules_reports.specs.steps.LentLines.{has_line}
use Rattle.testing_rules_suites.proofs.Lost.{contains_at}
use Rattle.testing_install_why.specs.Certificate.{IsShownBy, everywhere}
use Rattle.testing_install_why.specs.declared.Step.{Step}
use Rattle.testing_rules_refusals.specs.Needs.{packages}
use Rattle.testing_rules_refusals.specs.steps.Standing.{lives_beside, comes_by, IsOwnAt, IsStayingAt, IsDueAt, IsBlockOf, IsToldBlock, AreToldBlocks, begins_with}
use Rattle.testing_rules_refusals.specs.Stuck.{is_living, living, coming_rows, gives_way, may_stand, Block, IsStuckBy, AreStuck, names_of, stuck_line, block_text, stuck_text, IsStuckText}
use Rattle.testing_rules_refusals.specs.Texts.{comes_with, refusal_text}
use Rattle.testing_rules_refusals.specs.Told.{lines_of}
use Rattle.testing_rules_refusals.proofs.Coming.{both_so, or_first}
use Rattle.testing_rules_refusals.proofs.Failings.{first_of_both, second_of_both}
use Rattle.testing_rules_refusals.proofs.Leaving.{neither_first}

-- A set that has the names that a list has.

-- so the same candidates live
pub living_alike : (excuses : List Excuse) (t : Suite) (dead : List Text) (keys : List (Bor (List ℕ))) → ((name : List ℕ) → has_line keys name ≡ list_any (bytes_eq name) dead)
    → map (λ (e : Excuse). e.source) (filter (lives_beside t keys) excuses) ≡ living excuses t dead
living_alike excuses t dead keys same =
    ap (map (λ (e : Excuse). e.source)) (filter-same (lives_beside t keys) (is_living t dead) (λ e. ap (λ b. is_remaining t e && not b) (same e.source)) excuses)

-- and the same rows come
pub coming_alike : (sources : List UploadIn) (unstable : List RowIn) (live : List Text) (keys : List (Bor (List ℕ))) → ((name : List ℕ) → has_line keys name ≡ list_any (bytes_eq name) live)
    → filter (comes_by sources keys) unstable ≡ coming_rows sources unstable live
coming_alike sources unstable live keys same =
    filter-same (comes_by sources keys) (comes_with sources live) (λ r. ap (λ b. b && is_current_in sources r) (same r.binary.source)) unstable

module _ (sources : List UploadIn) (unstable : List RowIn) (live : List Text) (t : Suite) (name : Text) (o : Offender) (rows : List RowIn) (place : ℕ)
    (rows_are : rows ≡ rows_on o.arch (may_stand sources unstable live name t)) where
  abbrev stays_there : RowIn → Bool
  stays_there r = not (gives_way (coming_rows sources unstable (name ∷ [])) name r)

  abbrev others : List RowIn
  others = filter stays_there t.rows

  abbrev coming : List RowIn
  coming = coming_rows sources unstable live

  either : (r : RowIn) → slice_get rows place ≡ Some r → Contains others r ⊎ Contains coming r
  either r at =
      Contains-append_cases others coming r
      (from_filter (is_row_on o.arch) (may_stand sources unstable live name t) r (subst (λ rs. Contains rs r) rows_are (contains_at rows place r at))).0

  -- a row of the source that may stand comes with it
  pub own_due : IsOwnAt o.arch o.«package» rows name place → IsDueAt sources unstable live t name o rows place
  own_due w = record {
    row = w.row;
    is = w.is;
    due = elim (either w.row w.is.stands) [
      | inl another ↦ absurd (false≢true (sym (neither_first (bytes_eq w.row.binary.source name) (list_any (is_same_key w.row) (coming_rows sources unstable (name ∷ [])))
          (from_filter stays_there t.rows w.row another).1) ∙ w.own))
      | inr comes ↦ (
          let f = from_filter (comes_with sources live) unstable w.row comes in
          inl (to_filter (comes_with sources (name ∷ [])) unstable w.row f.0
          (both_so (is_row_of (name ∷ []) w.row) (is_current_in sources w.row) (or_first (bytes_eq w.row.binary.source name) false w.own)
          (second_of_both (is_row_of live w.row) (is_current_in sources w.row) f.1))))
    ];
  }

  -- and one that stays is testing's
  pub staying_due : (before : List RowAnswer) (found : List RowIn) → before ≡ judged_on o.arch t.rows → found ≡ coming → IsStayingAt o.arch o.«package» rows before live found place
      → IsDueAt sources unstable live t name o rows place
  staying_due before found b e w = record {
    row = w.row;
    is = w.is;
    due = inr (record {
      there = elim (either w.row w.is.stands) [
        | inl another ↦ (from_filter stays_there t.rows w.row another).0
        | inr comes ↦ absurd (false≢true (sym w.own ∙ first_of_both (is_row_of live w.row) (is_current_in sources w.row) (from_filter (comes_with sources live) unstable w.row comes).1))
      ];
      worked = ap (λ js. was_installable js w.row) (sym b) ∙ w.worked;
      own = w.own;
      key = ap (list_any (is_same_key w.row)) (sym e) ∙ w.key;
    });
  }

-- what is found of a block, of lists that are lent
pub block_found : (archs : List Text) (sources : List UploadIn) (unstable : List RowIn) (live : List Text) (t : Suite) (name : Text) (arch : ℕ) (named copy : Text) (rows first second : List RowIn) (place : ℕ) (steps : List Step)
    → AreByKey t.rows → list_any (bytes_eq name) live ≡ true → arch < length archs → copy ≡ named → rows ≡ rows_on arch (may_stand sources unstable live name t)
    → first ≡ rows → IsDueAt sources unstable live t name (record { arch = arch; «package» = named }) first place
    → second ≡ rows → IsShownBy (packages second) everywhere place steps
    → IsBlockOf archs sources unstable live t name (record { arch = arch; «package» = copy }) rows steps
block_found archs sources unstable live t name arch named copy rows first second place steps ordered lives listed c e f due s shown = record {
  ordered = ordered;
  lives = lives;
  listed = listed;
  place = place;
  rows_are = e;
  at =
      subst (λ (p : Text). IsDueAt sources unstable live t name (record { arch = arch; «package» = p }) rows place) (sym c)
      (subst (λ (rs : List RowIn). IsDueAt sources unstable live t name (record { arch = arch; «package» = named }) rs place) f due);
  shown = subst (λ (rs : List RowIn). IsShownBy (packages rs) everywhere place steps) s shown;
}

-- the first of some blocks
first_block : (source : Text) (list : List Block) → begins_with (names_of list) source ≡ true
    → (own : Block) × (behind : List Block) × (list ≡ own ∷ behind) × (own.name ≡ source)
first_block source [] h = absurd (false≢true h)
first_block source (b ∷ behind) h = (b, behind, refl, (bytes_eq-Decides b.name source).0 h)

module _ (archs : List Text) (sources : List UploadIn) (unstable : List RowIn) (excuses : List Excuse) (t : Suite) where
  -- what is found of a block, as a block
  pub stuck_by : (dead : List Text) (name : Text) (o : Offender) (rows : List RowIn) (steps : List Step) → IsBlockOf archs sources unstable (living excuses t dead) t name o rows steps
      → IsStuckBy archs sources unstable excuses t dead (record { name = name; offender = o; steps = steps })
  stuck_by dead name o rows steps w = record {
    ordered = w.ordered;
    lives = w.lives;
    listed = w.listed;
    place = w.place;
    row = w.at.row;
    stands = ap (λ (rs : List RowIn). slice_get rs w.place) (sym w.rows_are) ∙ w.at.is.stands;
    named = w.at.is.named;
    watched = w.at.is.watched;
    due = w.at.due;
    shown = subst (λ (rs : List RowIn). IsShownBy (packages rs) everywhere w.place steps) w.rows_are w.shown;
  }

  -- and its text
  pub told_block : (dead live : List Text) (name text : Text) (o : Offender) (rows old : List RowIn) (steps : List Step) → live ≡ living excuses t dead → old ≡ t.rows
      → IsBlockOf archs sources unstable live t name o rows steps
      → text ≡ stuck_line archs excuses (record { name = name; offender = o; steps = steps })
      ++ refusal_text t (record { archs = archs; sources = sources; excuses = excuses; coming = live; stuck = dead }) (lines_of rows steps (rows_on o.arch old) (rows_on o.arch unstable))
      → IsToldBlock archs sources unstable excuses t dead name text
  told_block dead live name text o rows old steps same before w told =
      let is = subst (λ ls. IsBlockOf archs sources unstable ls t name o rows steps) same w in
      let b : Block = record { name = name; offender = o; steps = steps } in
      let lines : List Text → List RowIn → List RowIn → Text = λ ls rs ts. stuck_line archs excuses b
      ++ refusal_text t (record { archs = archs; sources = sources; excuses = excuses; coming = ls; stuck = dead }) (lines_of rs steps (rows_on o.arch ts) (rows_on o.arch unstable)) in
      record {
        block = b;
        named = refl;
        is = stuck_by dead name o rows steps is;
        told =
            told ∙ ap (λ ls. lines ls rows old) same ∙ ap (λ rs. lines (living excuses t dead) rs old) is.rows_are
            ∙ ap (lines (living excuses t dead) (rows_on o.arch (may_stand sources unstable (living excuses t dead) name t))) before;
      }

  pub no_blocks_told : (names : List Text) (text : Text) → names ≡ [] → text ≡ [] → AreToldBlocks archs sources unstable excuses t names text
  no_blocks_told names text n e = record { list = []; named = sym n; are = tt; told = e }

  pub more_blocks_told : (names more : List Text) (name text block longer : Text) → AreToldBlocks archs sources unstable excuses t names text
      → IsToldBlock archs sources unstable excuses t names name block → more ≡ name ∷ names → longer ≡ block ++ text → AreToldBlocks archs sources unstable excuses t more longer
  more_blocks_told names more name text block longer told b n e = record {
    list = b.block ∷ told.list;
    named = ap (λ m. m ∷ names_of told.list) b.named ∙ ap (λ ms. name ∷ ms) told.named ∙ sym n;
    are = (subst (λ dead. IsStuckBy archs sources unstable excuses t dead b.block) (sym told.named) b.is, told.are);
    told =
        e ∙ ap (λ x. x ++ text) (b.told ∙ ap (λ dead. block_text archs sources unstable excuses t dead b.block) (sym told.named))
        ∙ ap (λ x. block_text archs sources unstable excuses t (names_of told.list) b.block ++ x) told.told;
  }

  -- where the first of them is the source's, they show that no group frees it
  pub shows_stuck : (source text : Text) (names : List Text) → begins_with names source ≡ true → AreToldBlocks archs sources unstable excuses t names text → IsStuckText archs sources unstable excuses t source text
  shows_stuck source text names h told =
      let f = first_block source told.list (ap (λ (ns : List Text). begins_with ns source) told.named ∙ h) in
      record {
        own = f.0;
        behind = f.1;
        named = f.3;
        are = subst (AreStuck archs sources unstable excuses t) f.2 told.are;
        told = told.told ∙ ap (stuck_text archs sources unstable excuses t) f.2;
      }
