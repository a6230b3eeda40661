-- What is chosen of kept mail and taken, letter by letter and block by block.
use Rattle.std.proofs.Common.{◌≡◌, ℕ, ◌+◌, ◌≤◌, false, List, [], ◌∷◌, ◌++◌, Option, Some, option_to_list, sym, ap, subst, ◌∙◌, refl}
use Rattle.std.proofs.lemmas.Bool.{false≢true}
use Rattle.std.proofs.lemmas.List.Elements.{Contains-append_left, Contains-append_right}
use Rattle.testing_rules_model.proofs.Sets.{at_front}
use Rattle.testing_rules_model.specs.Covered.{Covered, CoveredItem}
use Rattle.testing_rules_model.specs.FactLists.{FactLists}
use Rattle.testing_rules_model.specs.Suite.{Suite}
use Rattle.office_mail.specs.Lists.{Lists}
use Rattle.office_store_keeper.specs.Content.{Content, letters_within}
use Rattle.office_store_keeper.specs.declared.values.Letter.{Letter}
use Rattle.office_core_facts.specs.declared.choice.Choice.{Choice}
use Rattle.office_core_facts.specs.declared.choice.Choice.TheVariants.{All, UploadsOf}
use Rattle.office_core_facts.specs.Outcome.{item_at}
use Rattle.office_core_facts.specs.steps.Chosen.{AreTaken, IsChosen, TookLetters, TookStretch}
use Rattle.office_core_facts.specs.steps.Taking.{Took, TookAgain}
use Rattle.office_core_facts.specs.steps.Walk.{said_by, said_in}
use Rattle.office_core_facts.proofs.AgainFacts.{again_passed, again_taken}
use Rattle.office_core_facts.proofs.SaidLetters.{letters_own, said_block, said_in-more, said_in-none, said_in-one}
use Rattle.office_core_facts.proofs.TakenFacts.{way_more}
use Rattle.office_core_facts.proofs.WalkFacts.{said_by-none}

-- one message more, which was taken
chosen_taken : (choice : Choice) (says : Option CoveredItem) (old new : FactLists) → Took says old new → (t : Suite) (first : FactLists) (s : Covered) → AreTaken choice t first s old → AreTaken choice t first (option_to_list says ++ s) new
chosen_taken All says old new took t first s h = took.stand s t h
chosen_taken (UploadsOf names) says old new took t first s h = again_taken names.now says s first old new took.stand took.kept took.there h

-- or which isn't chosen
chosen_passed : (choice : Choice) (says : Option CoveredItem) (f : FactLists) → IsChosen choice says false → (t : Suite) (first : FactLists) (s : Covered) → AreTaken choice t first s f → AreTaken choice t first (option_to_list says ++ s) f
chosen_passed All says f passed t first s h = absurd (false≢true passed)
chosen_passed (UploadsOf names) says f passed t first s h = again_passed names.now says s first f (λ m u is up name. false≢true (passed m u is up name)) h

module _ (choice : Choice) (setup : Lists) (sender : ℕ) where
  -- a letter says what its text does
  letter_says : (x : Letter) (text : List ℕ) (s : Covered) → text ≡ x.text → option_to_list (item_at setup ((sender, x.number), text)) ++ s ≡ said_in setup sender (x ∷ []) s
  letter_says x text s same = ap (λ (l : List ℕ). option_to_list (item_at setup ((sender, x.number), l)) ++ s) same ∙ sym (said_in-one setup sender x s)

  pub letter_taken : (x : Letter) (text : List ℕ) (old new : FactLists) → text ≡ x.text → Took (item_at setup ((sender, x.number), text)) old new → TookLetters choice setup sender (x ∷ []) old new
  letter_taken x text old new same took = record {
    taken = λ t first s h. subst (λ (l : Covered). AreTaken choice t first l new) (letter_says x text s same) (chosen_taken choice (item_at setup ((sender, x.number), text)) old new took t first s h);
    way = λ content own was. way_more setup content (sender, x.number) text old new (own x (at_front x x [] refl) ∙ ap Some (sym same)) took.tells took.moved took.by_message was;
  }

  pub letter_passed : (x : Letter) (text : List ℕ) (f : FactLists) → text ≡ x.text → IsChosen choice (item_at setup ((sender, x.number), text)) false → TookLetters choice setup sender (x ∷ []) f f
  letter_passed x text f same passed = record {
    taken = λ t first s h. subst (λ (l : Covered). AreTaken choice t first l f) (letter_says x text s same) (chosen_passed choice (item_at setup ((sender, x.number), text)) f passed t first s h);
    way = λ content own was. was;
  }

  pub letters_none : (f : FactLists) → TookLetters choice setup sender [] f f
  letters_none f = record {
    taken = λ t first s h. subst (λ (l : Covered). AreTaken choice t first l f) (sym (said_in-none setup sender s)) h;
    way = λ content own was. was;
  }

  pub letters_then : (letters : List Letter) (x : Letter) (old mid new : FactLists) → TookLetters choice setup sender letters old mid → TookLetters choice setup sender (x ∷ []) mid new → TookLetters choice setup sender (letters ++ x ∷ []) old new
  letters_then letters x old mid new so next = record {
    taken = λ t first s h.
        subst (λ (l : Covered). AreTaken choice t first l new) (said_in-one setup sender x (said_in setup sender letters s) ∙ sym (said_in-more setup sender letters x s))
        (next.taken t first (said_in setup sender letters s) (so.taken t first s h));
    way = λ content own was.
        next.way content (λ y c. own y (Contains-append_right letters (x ∷ []) y c)) (so.way content (λ y c. own y (Contains-append_left letters (x ∷ []) y c)) was);
  }

  module _ (content : Content) where
    pub block_taken : (done end : ℕ) (letters : List Letter) (old new : FactLists) → done ≤ end → letters ≡ letters_within content.kept sender (done + 1) end → TookLetters choice setup sender letters old new → TookStretch choice setup content sender done end old new
    block_taken done end letters old new up loaded took = record {
      taken = λ t first s h.
          subst (λ (l : Covered). AreTaken choice t first l new)
          (ap (λ (ls : List Letter). said_in setup sender ls (said_by setup content.kept sender done ++ s)) loaded ∙ said_block setup content.kept sender done end s up)
          (took.taken t first (said_by setup content.kept sender done ++ s) h);
      way = λ was. took.way content (letters_own content.kept sender (done + 1) end letters loaded) was;
    }

    pub stretch_none : (done : ℕ) (f : FactLists) → TookStretch choice setup content sender done done f f
    stretch_none done f = record { taken = λ t first s h. h; way = λ was. was }

    pub stretch_then : (done mid end : ℕ) (old now new : FactLists) → TookStretch choice setup content sender done mid old now → TookStretch choice setup content sender mid end now new → TookStretch choice setup content sender done end old new
    stretch_then done mid end old now new so next = record { taken = λ t first s h. next.taken t first s (so.taken t first s h); way = λ was. next.way (so.way was) }

-- the uploads of all that a sender says up to a number were taken again
pub again_by : (names : _) (setup : Lists) (content : Content) (sender n : ℕ) (first old new : FactLists) (s : Covered) → TookStretch (UploadsOf names) setup content sender 0 n old new → TookAgain names.now s first old → TookAgain names.now (said_by setup content.kept sender n ++ s) first new
again_by names setup content sender n first old new s took h =
    took.taken (record { sources = []; rows = [] }) first s (subst (λ (l : Covered). TookAgain names.now (l ++ s) first old) (sym (said_by-none setup content.kept sender)) h)
