-- Keys, orders and faults of worked texts, each by computation: they show that the definitions say what is meant.
use Rattle.std.specs.Prelude.{◌≡◌, [], ◌∷◌, pos, negsuc, Some, None, codes}
use Rattle.std.specs.declared.cmp.Ordering.TheVariants.{Less, Equal, Greater}
use Rattle.std.proofs.Common.{refl}
use Rattle.deb_version.specs.declared.faults.VersionFault.TheVariants.{Empty, BadEpoch, EmptyUpstream, EmptyRevision, BadCharacter}
use Rattle.deb_version.specs.Key.{key, blocks_key, key_cmp}
use Rattle.deb_version.specs.Text.{version_fault, epoch_of, after_epoch, upstream_of, revision_of}
use Rattle.deb_version.specs.Order.{version_cmp}

-- the blocks are `1`, `.10` and `~rc2`
key_of_three_blocks : key (codes "1.10~rc2") ≡ pos 0 ∷ pos 1 ∷ pos 302 ∷ pos 0 ∷ pos 10 ∷ negsuc 0 ∷ pos 114 ∷ pos 99 ∷ pos 0 ∷ pos 2 ∷ []
unfolding key blocks_key
key_of_three_blocks = refl

-- the last block has no digits
key_without_digits : key (codes "2a") ≡ pos 0 ∷ pos 2 ∷ pos 97 ∷ pos 0 ∷ pos 0 ∷ []
unfolding key blocks_key
key_without_digits = refl

key_of_nothing : key [] ≡ []
unfolding key blocks_key
key_of_nothing = refl

parts_of_a_text : (epoch_of (codes "1:2:3-4-5") ≡ 1) × (upstream_of (codes "1:2:3-4-5") ≡ codes "2:3-4") × (revision_of (codes "1:2:3-4-5") ≡ codes "5")
unfolding epoch_of after_epoch upstream_of revision_of
parts_of_a_text = (refl, refl, refl)

absent_parts : (epoch_of (codes "2.0") ≡ 0) × (upstream_of (codes "2.0") ≡ codes "2.0") × (revision_of (codes "2.0") ≡ codes "0")
unfolding epoch_of after_epoch upstream_of revision_of
absent_parts = (refl, refl, refl)

tilde_first : (version_cmp (codes "1~~") (codes "1~~a") ≡ Less) × (version_cmp (codes "1~~a") (codes "1~") ≡ Less) × (version_cmp (codes "1~") (codes "1") ≡ Less) × (version_cmp (codes "1") (codes "1a") ≡ Less) × (version_cmp (codes "1a") (codes "1+") ≡ Less)
unfolding version_cmp key blocks_key key_cmp epoch_of after_epoch upstream_of revision_of
tilde_first = (refl, refl, refl, refl, refl)

same_versions : (version_cmp (codes "1.") (codes "1.0") ≡ Equal) × (version_cmp (codes "1") (codes "1-0") ≡ Equal) × (version_cmp (codes "0:1.00") (codes "1.0-0") ≡ Equal)
unfolding version_cmp key blocks_key key_cmp epoch_of after_epoch upstream_of revision_of
same_versions = (refl, refl, refl)

numbers_and_epochs : (version_cmp (codes "1.10") (codes "1.9") ≡ Greater) × (version_cmp (codes "2.0") (codes "1:1.0") ≡ Less)
unfolding version_cmp key blocks_key key_cmp epoch_of after_epoch upstream_of revision_of
numbers_and_epochs = (refl, refl)

first_faults : (version_fault [] ≡ Some Empty) × (version_fault (codes ":1") ≡ Some BadEpoch) × (version_fault (codes "2147483648:1") ≡ Some BadEpoch) × (version_fault (codes "1:-") ≡ Some EmptyUpstream) × (version_fault (codes "1_0-") ≡ Some EmptyRevision) × (version_fault (codes "1.0_2") ≡ Some BadCharacter) × (version_fault (codes "002147483647:1.0~rc1-1") ≡ None)
unfolding version_fault epoch_of after_epoch upstream_of revision_of
first_faults = (refl, refl, refl, refl, refl, refl, refl)
