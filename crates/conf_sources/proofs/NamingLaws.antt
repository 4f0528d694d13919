-- What inclusions name, by what is found.
use Rattle.std.proofs.Common.{◌≡◌, List, ℕ, ap, ◌∙◌}
use Rattle.conf_sources.specs.Listings.{listing}
use Rattle.conf_sources.specs.Names.{folder_of, last_part}
use Rattle.conf_sources.specs.Sources.{in_folder, wild_names}

-- what is found in a folder that was listed
pub found_wild : (files : List (List ℕ × List ℕ)) (name folder last : List ℕ) (names found : List (List ℕ)) → folder ≡ folder_of name → last ≡ last_part name
    → names ≡ listing folder files → found ≡ in_folder folder last names → found ≡ wild_names files name
found_wild files name folder last names found ef el h e =
    e ∙ ap (in_folder folder last) h ∙ ap (λ d. in_folder d last (listing d files)) ef ∙ ap (λ p. in_folder (folder_of name) p (listing (folder_of name) files)) el
