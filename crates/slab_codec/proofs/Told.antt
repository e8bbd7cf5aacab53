-- What the bytes of a header tell.
use Rattle.std.proofs.Common.{◌≡◌, ℕ, ◌<◌, ◌≤◌, ◌^◌, List, refl, sym, ◌∙◌, ap, subst, arith}
use Rattle.std.specs.Prelude.{slice_index}
use Rattle.std.proofs.lemmas.Nat.{from_be_bytes-to_be_bytes_4, from_be_bytes-to_be_bytes_8}
use Rattle.quorum_rules.specs.Limits.{Numbers, IsValid, edition_number, most_size, most_blocks}
use Rattle.quorum_rules.specs.declared.Edition.{Edition}
use Rattle.quorum_rules.specs.declared.Edition.TheVariants.{One, Two, Three, Four}
use Rattle.slot_disk.specs.Slots.{word_at, long_at}
use Rattle.slab_layout.specs.Headers.{IsHeader}
use Rattle.slab_codec.specs.Told.{config_in}

-- no two editions have one number
one_edition : (d e : Edition) → edition_number d ≡ edition_number e → d ≡ e
one_edition One One h = refl
one_edition One Two h = cc
one_edition One Three h = cc
one_edition One Four h = cc
one_edition Two One h = cc
one_edition Two Two h = refl
one_edition Two Three h = cc
one_edition Two Four h = cc
one_edition Three One h = cc
one_edition Three Two h = cc
one_edition Three Three h = refl
one_edition Three Four h = cc
one_edition Four One h = cc
one_edition Four Two h = cc
one_edition Four Three h = cc
one_edition Four Four h = refl

-- sizes and counts of blocks have place in 4 bytes
size_small : (e : Edition) → most_size e < 2 ^ 32
size_small One = omega arith
size_small Two = omega arith
size_small Three = omega arith
size_small Four = omega arith

blocks_small : (e : Edition) → most_blocks e < 2 ^ 32
blocks_small One = omega arith
blocks_small Two = omega arith
blocks_small Three = omega arith
blocks_small Four = omega arith

module _ (c : Numbers) (number key : ℕ) (bytes : List ℕ) (is : IsHeader c number key bytes) where
  pub size_is : word_at bytes 16 ≡ c.size
  size_is = ap (λ b. word_at b 16) is.written ∙ from_be_bytes-to_be_bytes_4 c.size (omega (arith, is.valid.size.1, size_small c.edition))

  pub blocks_is : word_at bytes 20 ≡ c.blocks
  blocks_is = ap (λ b. word_at b 20) is.written ∙ from_be_bytes-to_be_bytes_4 c.blocks (omega (arith, is.valid.blocks.1, blocks_small c.edition))

  pub key_is : long_at bytes 24 ≡ key
  key_is = ap (λ b. long_at b 24) is.written ∙ from_be_bytes-to_be_bytes_8 key is.fits

  pub number_is : slice_index bytes 14 ≡ number
  number_is = ap (λ b. slice_index b 14) is.written

  pub edition_is : edition_number c.edition ≡ slice_index bytes 8
  edition_is = sym (ap (λ b. slice_index b 8) is.written)

  -- the configuration that is told
  pub config_is : (e : Edition) → edition_number e ≡ slice_index bytes 8 → config_in e bytes ≡ c
  config_is e told =
      let edition : e ≡ c.edition = one_edition e c.edition (told ∙ sym edition_is) in
      λ i. record {
        edition = edition i;
        n = slice_index (is.written i) 9;
        t = slice_index (is.written i) 10;
        b = slice_index (is.written i) 11;
        qc = slice_index (is.written i) 12;
        m = slice_index (is.written i) 13;
        size = size_is i;
        blocks = blocks_is i;
      }

  -- which is valid
  pub told_is_valid : (e : Edition) → edition_number e ≡ slice_index bytes 8 → IsValid (config_in e bytes)
  told_is_valid e told = subst (λ (k : Numbers). IsValid k) (sym (config_is e told)) is.valid
