use Rattle.network_texts.proofs.Extracted.{ExtractLaws, can_be_written}
use Rattle.network_texts.proofs.laws.extracted_networks_can_be_written.Goals as goal

pub returns : goal.returns
returns c =
    let laws : ExtractLaws = record { names = c.each_node_has_a_name.ensures.names; words = c.names_are_words.ensures.words } in
    λ tech grid e named is built supplied. can_be_written laws tech grid e named is built supplied
