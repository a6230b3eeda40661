-- Words that a command takes ask for the same where it has more subcommands.
use Rattle.std.proofs.Common.{◌≡◌, Bool, true, false, cond, ◌||◌, codes, List, [], ◌∷◌, ◌++◌, map, Option, Some, None, refl, sym, ap, subst, ◌∙◌}
use Rattle.std.proofs.lemmas.List.{map-append}
use Rattle.std.proofs.lemmas.List.Folds.{find-append}
use Rattle.std.proofs.lemmas.Slice.Eq.{bytes_eq-Decides}
use Rattle.std.specs.Prelude.{⊤, find, fold, is_some, option_and_then, option_map}
use Rattle.std.specs.Option.{option_map_or, option_or}
use Rattle.std.specs.Str.{bytes_eq}
use Rattle.clap.proofs.OnLiterals.{clap_on_literals}
use Rattle.clap.specs.declared.error.kind.ErrorKind.TheVariants as kind
use Rattle.clap.specs.Faults.{built_fault, check_fault, defaults_fault, entered_fault, fault_of, level_fault, other_fault, settle_fault, step_fault, turn_fault, walk_fault}
use Rattle.clap.specs.Kinds.{Kinds, or_else}
use Rattle.clap.specs.Simple.{App, Shape, argument_words, built, built_leaf, entered, inherited, label_of, names_of, rows_at, subcommand_of}
use Rattle.clap.specs.Walk.{Names, Row, Text, Waiting, Walk, after_step, answers_to, finished, idle, nothing_held, option, positional, settled, stop_after, subcommand_met, subcommand_or_other, value, walk, walk_from, walked, walked_from}
use Rattle.office_cli_words.specs.Program as program
use Rattle.office_cli_words.specs.steps.ProgramSteps as steps
use Rattle.office_cli_words.specs.Asked.{Asked, ToCheck, ToExport, ToTellHints, ToTellRuns, ToTellVersion, command_in, command_words_in, compare_in, if_faultless, replay_in, serve_in, stored_in, words_in}
use Rattle.office_cli_words.specs.steps.AskedSteps.{asked_by, breaks_in, lint_in, mail_in, order_in, propose_in, report_in, try_in, waiting_in, why_in}
use Rattle.office_cli_words.specs.Laws.{OldWordsStay, old_words_in, one_of_three}
use Rattle.office_cli_words.proofs.Walks.{never_none, no_kinds}

both_none : (a b : Kinds) → a ≡ [] → b ≡ [] → or_else a b ≡ []
both_none [] b none more = more
both_none (k ∷ ks) b none more = absurd (never_none k ks none)

-- ---- a walk, by the subcommand that each word names

module _ (s : Shape) where
  abbrev fault_by : Bool → Option Text → Waiting → Walk → Text → Kinds
  fault_by trailing named waiting w word =
      let met = cond trailing (w.held, value) (subcommand_or_other s.rules named waiting w.position word w.held) in
      or_else (cond trailing [] (other_fault s named word w.held)) (step_fault s w.position met.0 met.1)

  abbrev walk_by : Bool → Option Text → Waiting → Walk → Text → Walk
  walk_by trailing named waiting w word =
      let met = cond trailing (w.held, value) (subcommand_or_other s.rules named waiting w.position word w.held) in
      after_step s.rules word w met.0 met.1

  -- a word that is refused where it names no subcommand
  abbrev IsStray : Text → Type 0
  IsStray word = (w : Walk) → fault_by false None idle w word ≡ [] → ⊥

module _ (s : Shape) (xs ys : Names) (strays : (word : Text) → is_some (find (answers_to word) ys) ≡ true → IsStray s word) where
  abbrev Same : Bool → Option Text → Option Text → Waiting → Walk → Text → Type 0
  Same trailing more few waiting w word = (fault_by s trailing more waiting w word ≡ []) × (walk_by s trailing more waiting w word ≡ walk_by s trailing few waiting w word)

  word_same : (trailing : Bool) (waiting : Waiting) (w : Walk) (word : Text) → fault_by s trailing (subcommand_met xs waiting word) waiting w word ≡ []
      → Same trailing (subcommand_met (xs ++ ys) waiting word) (subcommand_met xs waiting word) waiting w word
  word_same true waiting w word none = (none, refl)
  word_same false (option id) w word none = (none, refl)
  word_same false positional w word none = (none, refl)
  word_same false idle w word none =
      subst (λ (o : Option (Text × List Text)). Same false (option_map (λ x. x.0) o) (subcommand_met xs idle word) idle w word) (sym (find-append (answers_to word) xs ys))
      (go (find (answers_to word) xs) (find (answers_to word) ys) (λ there. strays word there w) none)
    where
      go : (x y : Option (Text × List Text)) → (is_some y ≡ true → fault_by s false None idle w word ≡ [] → ⊥) → fault_by s false (option_map (λ x. x.0) x) idle w word ≡ []
          → Same false (option_map (λ x. x.0) (option_or x y)) (option_map (λ x. x.0) x) idle w word
      go (Some x) y stray fine = (fine, refl)
      go None None stray fine = (fine, refl)
      go None (Some y) stray fine = absurd (stray refl fine)

  turn_same : (w : Walk) (word : Text) → turn_fault s xs w word ≡ []
      → (turn_fault s (xs ++ ys) w word ≡ []) × (walked_from s.rules (xs ++ ys) w.stopped w word ≡ walked_from s.rules xs w.stopped w word)
  turn_same w word none = go w.stopped none
    where
      go : (o : Option (Text × List Text)) → cond (is_some o) [] (fault_by s w.is_trailing (subcommand_met xs w.waiting word) w.waiting w word) ≡ []
          → (cond (is_some o) [] (fault_by s w.is_trailing (subcommand_met (xs ++ ys) w.waiting word) w.waiting w word) ≡ [])
          × (walked_from s.rules (xs ++ ys) o w word ≡ walked_from s.rules xs o w word)
      go (Some p) fine = (refl, refl)
      go None fine = word_same w.is_trailing w.waiting w word fine

  walk_same : (w : Walk) (words : List Text) → walk_fault s xs w words ≡ []
      → (walk_fault s (xs ++ ys) w words ≡ []) × (fold (walked s.rules (xs ++ ys)) w words ≡ fold (walked s.rules xs) w words)
  unfolding walk_fault walked
  walk_same w [] none = (refl, refl)
  walk_same w (word ∷ rest) none =
      let parts = no_kinds (turn_fault s xs w word) (walk_fault s xs (walked s.rules xs w word) rest) none in
      let here = turn_same w word parts.0 in
      let later = walk_same (walked s.rules xs w word) rest parts.1 in
      let fine = subst (λ (v : Walk). walk_fault s (xs ++ ys) v rest ≡ []) (sym here.1) later.0 in (
        both_none (turn_fault s (xs ++ ys) w word) (walk_fault s (xs ++ ys) (walked s.rules (xs ++ ys) w word) rest) here.0 fine,
        ap (λ (v : Walk). fold (walked s.rules (xs ++ ys)) v rest) here.1 ∙ later.1,
      )

-- ---- a command with more subcommands

module _ (a : App) (new : List Shape) where
  abbrev more : App
  more = record { top = a.top; subs = a.subs ++ new }

  entered_same : (stop : Option (Text × List Text)) (e : Text × List Row) → entered a stop ≡ Some e → (entered more stop ≡ Some e) × (entered_fault more stop ≡ entered_fault a stop)
  entered_same None e is = absurd (cc)
  entered_same (Some p) e is =
      let named = λ (s : Shape). answers_to p.0 (label_of s) in
      subst (λ (o : Option Shape). (option_map (λ s. rows_at s p.1) o ≡ Some e) × (option_map_or (λ s. level_fault s [] nothing_held p.1 false []) o [] ≡ entered_fault a (Some p)))
      (sym (find-append named a.subs new)) (go (find named a.subs) (find named new) is)
    where
      go : (x y : Option Shape) → option_map (λ s. rows_at s p.1) x ≡ Some e
          → (option_map (λ s. rows_at s p.1) (option_or x y) ≡ Some e)
          × (option_map_or (λ s. level_fault s [] nothing_held p.1 false []) (option_or x y) [] ≡ option_map_or (λ s. level_fault s [] nothing_held p.1 false []) x [])
      go None y none = absurd (cc)
      go (Some s) y some = (some, refl)

  -- the faults of a level behind those of its walk
  abbrev after_walk : Walk → Bool → Kinds → Kinds
  after_walk w has below =
      or_else below (or_else (settle_fault a.top.rules a.top.args_override_self w.held) (or_else (defaults_fault (settled a.top.rules w.held).rows a.top.rules) (check_fault a.top (finished a.top.rules w.held) has)))

  abbrev Takes : Names → List Text → Text × List Row → Type 0
  Takes names words e =
      let w = walk a.top.rules names nothing_held words in
      (or_else (walk_fault a.top names (walk_from nothing_held) words) (after_walk w (is_some (entered more w.stopped)) (entered_fault more w.stopped)) ≡ []) × (entered more w.stopped ≡ Some e)

  takes_same : ((word : Text) → is_some (find (answers_to word) (map label_of new)) ≡ true → IsStray a.top word) → (words : List Text) (e : Text × List Row)
      → built_fault a nothing_held words ≡ [] → entered a (stop_after a.top.rules (names_of a) words) ≡ Some e
      → (built_fault more nothing_held words ≡ []) × (entered more (stop_after a.top.rules (names_of more) words) ≡ Some e)
  takes_same strays words e none is =
      let w = walk a.top.rules (names_of a) nothing_held words in
      let all = names_of a ++ map label_of new in
      let parts = no_kinds (walk_fault a.top (names_of a) (walk_from nothing_held) words) (after_walk w (is_some (entered a w.stopped)) (entered_fault a w.stopped)) none in
      let same = walk_same a.top (names_of a) (map label_of new) strays (walk_from nothing_held) words parts.0 in
      let found = entered_same w.stopped e is in
      let has : is_some (entered more w.stopped) ≡ is_some (entered a w.stopped) = ap (λ (o : Option (Text × List Row)). is_some o) (found.0 ∙ sym is) in
      let left : after_walk w (is_some (entered more w.stopped)) (entered_fault more w.stopped) ≡ [] =
      ap (λ (b : Bool). after_walk w b (entered_fault more w.stopped)) has ∙ (ap (λ (k : Kinds). after_walk w (is_some (entered a w.stopped)) k) found.1 ∙ parts.1) in
      let there = subst (λ (v : Walk). (after_walk v (is_some (entered more v.stopped)) (entered_fault more v.stopped) ≡ []) × (entered more v.stopped ≡ Some e)) (sym same.1) (left, found.0) in
      subst (λ (names : Names). Takes names words e) (sym (map-append label_of a.subs new)) (both_none (walk_fault a.top all (walk_from nothing_held) words) _ same.0 there.0, there.1)

-- ---- the program's command

abbrev three : App
three = built program.of_three

abbrev new_leaf : App → Shape
new_leaf a = built_leaf (inherited three.top a.top)

abbrev new_shapes : List Shape
new_shapes = new_leaf steps.waiting ∷ new_leaf steps.report ∷ new_leaf (steps.looking (codes "runs")) ∷ new_leaf steps.mail ∷ new_leaf (steps.looking (codes "export")) ∷ new_leaf (steps.looking (codes "check")) ∷ new_leaf steps.why ∷ new_leaf steps.tries
    ∷ new_leaf steps.lint ∷ new_leaf steps.order ∷ new_leaf (steps.looking (codes "hints")) ∷ new_leaf steps.propose ∷ new_leaf steps.breaks ∷ []

abbrev plain_name : Text → Text × List Text
plain_name name = (name, [])

abbrev new_names : List Text
new_names = codes "waiting" ∷ codes "report" ∷ codes "runs" ∷ codes "mail" ∷ codes "export" ∷ codes "check" ∷ codes "why" ∷ codes "try" ∷ codes "lint" ∷ codes "order" ∷ codes "hints" ∷ codes "propose" ∷ codes "breaks" ∷ []

stray_waiting : IsStray three.top (codes "waiting")
unfolding clap_on_literals program.of_three
stray_waiting w none = never_none kind.UnknownArgument (kind.InvalidSubcommand ∷ []) none

stray_report : IsStray three.top (codes "report")
unfolding clap_on_literals program.of_three
stray_report w none = never_none kind.UnknownArgument (kind.InvalidSubcommand ∷ []) none

stray_runs : IsStray three.top (codes "runs")
unfolding clap_on_literals program.of_three
stray_runs w none = never_none kind.UnknownArgument (kind.InvalidSubcommand ∷ []) none

stray_mail : IsStray three.top (codes "mail")
unfolding clap_on_literals program.of_three
stray_mail w none = never_none kind.UnknownArgument (kind.InvalidSubcommand ∷ []) none

stray_export : IsStray three.top (codes "export")
unfolding clap_on_literals program.of_three
stray_export w none = never_none kind.UnknownArgument (kind.InvalidSubcommand ∷ []) none

stray_check : IsStray three.top (codes "check")
unfolding clap_on_literals program.of_three
stray_check w none = never_none kind.UnknownArgument (kind.InvalidSubcommand ∷ []) none

stray_why : IsStray three.top (codes "why")
unfolding clap_on_literals program.of_three
stray_why w none = never_none kind.UnknownArgument (kind.InvalidSubcommand ∷ []) none

stray_try : IsStray three.top (codes "try")
unfolding clap_on_literals program.of_three
stray_try w none = never_none kind.UnknownArgument (kind.InvalidSubcommand ∷ []) none

stray_lint : IsStray three.top (codes "lint")
unfolding clap_on_literals program.of_three
stray_lint w none = never_none kind.UnknownArgument (kind.InvalidSubcommand ∷ []) none

stray_order : IsStray three.top (codes "order")
unfolding clap_on_literals program.of_three
stray_order w none = never_none kind.UnknownArgument (kind.InvalidSubcommand ∷ []) none

stray_hints : IsStray three.top (codes "hints")
unfolding clap_on_literals program.of_three
stray_hints w none = never_none kind.UnknownArgument (kind.InvalidSubcommand ∷ []) none

stray_propose : IsStray three.top (codes "propose")
unfolding clap_on_literals program.of_three
stray_propose w none = never_none kind.UnknownArgument (kind.InvalidSubcommand ∷ []) none

stray_breaks : IsStray three.top (codes "breaks")
unfolding clap_on_literals program.of_three
stray_breaks w none = never_none kind.UnknownArgument (kind.InvalidSubcommand ∷ []) none

abbrev EachStray : List Text → Type 0
EachStray [] = ⊤
EachStray (name ∷ rest) = IsStray three.top name × EachStray rest

strays_among : (names : List Text) → EachStray names → (word : Text) → is_some (find (answers_to word) (map plain_name names)) ≡ true → IsStray three.top word
strays_among [] each word there = absurd (cc)
strays_among (name ∷ rest) each word there = go (bytes_eq name word) refl (strays_among rest each.1 word) there
  where
    go : (x : Bool) → bytes_eq name word ≡ x → (is_some (find (answers_to word) (map plain_name rest)) ≡ true → IsStray three.top word)
        → is_some {T = Text × List Text} (cond (x || false) (Some (plain_name name)) (find (answers_to word) (map plain_name rest))) ≡ true → IsStray three.top word
    go true same later found = subst (λ (text : Text). IsStray three.top text) ((bytes_eq-Decides name word).0 same) each.0
    go false other later found = later found

new_strays : (word : Text) → is_some (find (answers_to word) (map plain_name new_names)) ≡ true → IsStray three.top word
new_strays = strays_among new_names (stray_waiting, (stray_report, (stray_runs, (stray_mail, (stray_export, (stray_check, (stray_why, (stray_try, (stray_lint, (stray_order, (stray_hints, (stray_propose, (stray_breaks, tt)))))))))))))

faultless_parts : (kinds : Kinds) (found : Option Asked) (ask : Asked) → if_faultless kinds found ≡ Some ask → (kinds ≡ []) × (found ≡ Some ask)
faultless_parts [] found ask is = (refl, is)
faultless_parts (k ∷ ks) found ask is = absurd (cc)

found_parts : (o : Option (Text × List Row)) (ask : Asked) → option_and_then (λ found. one_of_three found.0 found.1) o ≡ Some ask
    → (e : Text × List Row) × (o ≡ Some e) × (one_of_three e.0 e.1 ≡ Some ask)
found_parts None ask is = absurd (cc)
found_parts (Some e) ask is = (e, refl, is)

-- what a command asks for that is none of the three
abbrev new_command : Text → List Row → Option Asked
new_command name rows =
    cond (bytes_eq name (codes "waiting")) (waiting_in rows)
    (cond (bytes_eq name (codes "report")) (report_in rows)
    (cond (bytes_eq name (codes "runs")) (stored_in ToTellRuns rows)
    (cond (bytes_eq name (codes "mail")) (mail_in rows)
    (cond (bytes_eq name (codes "export")) (stored_in ToExport rows)
    (cond (bytes_eq name (codes "check")) (stored_in ToCheck rows)
    (cond (bytes_eq name (codes "why")) (why_in rows)
    (cond (bytes_eq name (codes "try")) (try_in rows)
    (cond (bytes_eq name (codes "lint")) (lint_in rows)
    (cond (bytes_eq name (codes "order")) (order_in rows)
    (cond (bytes_eq name (codes "hints")) (stored_in ToTellHints rows)
    (cond (bytes_eq name (codes "propose")) (propose_in rows)
    (cond (bytes_eq name (codes "breaks")) (breaks_in rows) None))))))))))))

command_same : (name : Text) (rows : List Row) (ask : Asked) → one_of_three name rows ≡ Some ask → command_in name rows ≡ Some ask
command_same name rows ask is =
    go (compare_in rows) (replay_in rows) (serve_in rows) (new_command name rows)
    (bytes_eq name (codes "compare")) (bytes_eq name (codes "replay")) (bytes_eq name (codes "serve")) is
  where
    go : (x y z rest : Option Asked) (a b c : Bool) → cond a x (cond b y (cond c z None)) ≡ Some ask → cond a x (cond b y (cond c z rest)) ≡ Some ask
    go x y z rest true b c some = some
    go x y z rest false true c some = some
    go x y z rest false false true some = some
    go x y z rest false false false some = absurd (cc)

command_stays : (words : List Text) (ask : Asked) → old_words_in words ≡ Some ask → command_words_in words ≡ Some ask
unfolding program.of_three program.office command_words_in
command_stays words ask is =
    let parts = faultless_parts (fault_of program.of_three words) (option_and_then (λ found. one_of_three found.0 found.1) (subcommand_of program.of_three words)) ask is in
    let found = found_parts (subcommand_of program.of_three words) ask parts.1 in
    let same = takes_same three new_shapes new_strays (argument_words program.of_three words) found.0 parts.0 found.1 in
    ap (λ (kinds : Kinds). if_faultless kinds (asked_by (subcommand_of program.office words))) same.0
    ∙ (ap asked_by same.1 ∙ command_same found.0.0 found.0.1 ask found.2)

no_version : (program : Text) (ask : Asked) → old_words_in (program ∷ codes "--version" ∷ []) ≡ Some ask → ⊥
unfolding clap_on_literals program.of_three
no_version program ask is = absurd (cc)

pub old_words_stay : OldWordsStay
unfolding words_in
old_words_stay words ask is = go words is
  where
    by_word : (program word : Text) (b : Bool) → bytes_eq word (codes "--version") ≡ b → old_words_in (program ∷ word ∷ []) ≡ Some ask
        → cond b (Some ToTellVersion) (command_words_in (program ∷ word ∷ [])) ≡ Some ask
    by_word program word true same old = absurd (no_version program ask (subst (λ (text : Text). old_words_in (program ∷ text ∷ []) ≡ Some ask) ((bytes_eq-Decides word (codes "--version")).0 same) old))
    by_word program word false same old = command_stays (program ∷ word ∷ []) ask old

    go : (all : List Text) → old_words_in all ≡ Some ask → words_in all ≡ Some ask
    go [] old = command_stays [] ask old
    go (program ∷ []) old = command_stays (program ∷ []) ask old
    go (program ∷ word ∷ []) old = by_word program word (bytes_eq word (codes "--version")) refl old
    go (program ∷ word ∷ next ∷ rest) old = command_stays (program ∷ word ∷ next ∷ rest) ask old
