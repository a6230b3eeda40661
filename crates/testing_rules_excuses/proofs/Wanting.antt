-- The rows of sources that are news are those of all builds that are let through.
use Rattle.std.specs.Prelude.{ℕ, Bool, true, false, cond, ◌==◌, ◌||◌, List, [], ◌∷◌, ◌++◌, map, filter, IsTrue}
use Rattle.std.specs.List.{flat_map}
use Rattle.std.specs.Str.{bytes_eq}
use Rattle.std.proofs.Common.{◌≡◌, ◌∙◌, refl, sym, ap, ap₂, subst, inl, inr}
use Rattle.std.proofs.lemmas.Bool.{cases_Bool, false≢true, eq-eqb}
use Rattle.std.proofs.lemmas.List.Elements.{filter-append}
use Rattle.std.proofs.lemmas.Slice.Eq.{bytes_eq-Decides}
use Rattle.testing_install.specs.Index.{hash_of}
use Rattle.testing_rules_excuses.specs.declared.by_source.News.{News}
use Rattle.testing_rules_model.specs.declared.facts.BuildIn.{BuildIn}
use Rattle.testing_rules_model.specs.declared.suite.RowIn.{RowIn}
use Rattle.testing_rules_facts.specs.declared.source_filter.SourceFilter.{SourceFilter}
use Rattle.testing_rules_excuses.specs.steps.BySource.{is_among}
use Rattle.testing_rules_model.specs.Unstable.{places, row_at, built_rows}
use Rattle.testing_rules_model.specs.steps.Unstable.{built_on}
use Rattle.testing_rules_model.specs.steps.SourceFilter.{is_one_of, hash_passes}
use Rattle.testing_rules_facts.specs.steps.SourceFilter.{filter_passes, passing_builds}
use Rattle.testing_rules_excuses.specs.steps.SourceFilter.{newer_hashes}
use Rattle.testing_rules_items.specs.Words.{Text}

-- a source's own rows are those of all builds that pass a test which its own pass
module _ (q : Text) (wide : BuildIn → Bool) (wider : (b : BuildIn) → bytes_eq q b.binary.source ≡ true → wide b ≡ true) where
  abbrev own : RowIn → Bool
  own r = bytes_eq q r.binary.source

  fails : (b : BuildIn) → wide b ≡ false → bytes_eq q b.binary.source ≡ false
  fails b f = elim (cases_Bool (bytes_eq q b.binary.source)) [ inl t ↦ absurd (false≢true (sym f ∙ wider b t)) | inr n ↦ n ]

  module _ (p : ℕ × Text) where
    abbrev is_there : BuildIn → Bool
    is_there b = bytes_eq b.binary.architecture p.1

    abbrev own_on : List BuildIn → List RowIn
    own_on bs = filter own (built_on bs p)

    abbrev first : BuildIn → List BuildIn → Bool → List RowIn
    first b bs t = filter own (map (row_at p.0) (cond t (b ∷ filter is_there bs) (filter is_there bs)))

    more : (b : BuildIn) (xs ys : List BuildIn) → own_on xs ≡ own_on ys → own_on (b ∷ xs) ≡ own_on (b ∷ ys)
    more b xs ys e = elim (cases_Bool (is_there b)) [
      | inl t ↦ ap (first b xs) t ∙ ap (λ rs. cond (bytes_eq q b.binary.source) (row_at p.0 b ∷ rs) rs) e ∙ sym (ap (first b ys) t)
      | inr f ↦ ap (first b xs) f ∙ e ∙ sym (ap (first b ys) f)
    ]

    less : (b : BuildIn) (bs : List BuildIn) → bytes_eq q b.binary.source ≡ false → own_on (b ∷ bs) ≡ own_on bs
    less b bs n = elim (cases_Bool (is_there b)) [
      | inl t ↦ ap (first b bs) t ∙ ap (λ o. cond o (row_at p.0 b ∷ own_on bs) (own_on bs)) n
      | inr f ↦ ap (first b bs) f
    ]

    own_there : (bs : List BuildIn) → own_on (filter wide bs) ≡ own_on bs
    own_there [] = refl
    own_there (b ∷ bs) =
        let passing : Bool → List RowIn = λ t. own_on (cond t (b ∷ filter wide bs) (filter wide bs)) in
        elim (cases_Bool (wide b)) [
          | inl t ↦ ap passing t ∙ more b (filter wide bs) bs (own_there bs)
          | inr f ↦ ap passing f ∙ own_there bs ∙ sym (less b bs (fails b f))
        ]

  own_everywhere : (bs : List BuildIn) (ps : List (ℕ × Text)) → filter own (flat_map (built_on (filter wide bs)) ps) ≡ filter own (flat_map (built_on bs) ps)
  own_everywhere bs [] = refl
  own_everywhere bs (p ∷ ps) =
      filter-append own (built_on (filter wide bs) p) (flat_map (built_on (filter wide bs)) ps)
      ∙ ap₂ (λ xs ys. xs ++ ys) (own_there p bs) (own_everywhere bs ps)
      ∙ sym (filter-append own (built_on bs p) (flat_map (built_on bs) ps))

or_first : (b rest : Bool) → b ≡ true → (b || rest) ≡ true
or_first b rest e = ap (λ c. c || rest) e

or_later : (b rest : Bool) → rest ≡ true → (b || rest) ≡ true
or_later true rest e = refl
or_later false rest e = e

hash_among : (news : List News) (q : Text) → IsTrue (is_among news q) → is_one_of (newer_hashes news) (hash_of q) ≡ true
hash_among [] q t = absurd (false≢true t)
hash_among (n ∷ ns) q t =
    let name = n.upload.now.source in
    elim (cases_Bool (bytes_eq q name)) [
      | inl own ↦ or_first (hash_of q == hash_of name) (is_one_of (newer_hashes ns) (hash_of q)) (eq-eqb (hash_of q) (hash_of name) (ap hash_of ((bytes_eq-Decides q name).0 own)))
      | inr other ↦ or_later (hash_of q == hash_of name) (is_one_of (newer_hashes ns) (hash_of q)) (hash_among ns q (subst (λ b. IsTrue (b || is_among ns q)) other t))
    ]

pub own_passing : (archs : List Text) (news : List News) (passing : SourceFilter) (builds : List BuildIn) → ((name : Text) → filter_passes passing name ≡ hash_passes (newer_hashes news) name)
    → (q : Text) → IsTrue (is_among news q)
    → filter (λ (r : RowIn). bytes_eq q r.binary.source) (built_rows archs (passing_builds passing builds)) ≡ filter (λ (r : RowIn). bytes_eq q r.binary.source) (built_rows archs builds)
own_passing archs news passing builds is q among =
    own_everywhere q (λ (b : BuildIn). filter_passes passing b.binary.source)
    (λ b own. is b.binary.source ∙ ap (hash_passes (newer_hashes news)) (sym ((bytes_eq-Decides q b.binary.source).0 own)) ∙ hash_among news q among) builds (places archs)
