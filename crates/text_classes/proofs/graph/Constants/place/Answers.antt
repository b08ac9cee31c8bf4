use Rattle.std.proofs.Common.{◌≡◌, ◌∙◌, sym, length, arith}
use Rattle.std.proofs.lemmas.Map.Text.{hash_map_updates_str}
use Rattle.text_classes.proofs.Reading.{found_text, kept_code}
use Rattle.text_classes.proofs.graph.Constants.place.Goals as goal

pub returns-in-Some-clause-within : goal.returns-in-Some-clause-within
returns-in-Some-clause-within c =
    (found_text c.args.self.now.places c.args.self.now.texts.items c.args.text.now c.as_str-characters.result.now c.in-Some.place c.requires.kept c.as_str-characters.ensures.characters (sym c.get.ensures.value ∙ sym c.copied.ensures ∙ c.in-Some.is)).0

pub returns-in-Some-clause-text : goal.returns-in-Some-clause-text
returns-in-Some-clause-text c =
    (found_text c.args.self.now.places c.args.self.now.texts.items c.args.text.now c.as_str-characters.result.now c.in-Some.place c.requires.kept c.as_str-characters.ensures.characters (sym c.get.ensures.value ∙ sym c.copied.ensures ∙ c.in-Some.is)).1

pub returns-clause-kept : goal.returns-clause-kept
returns-clause-kept c =
    let place : c.len-place.result ≡ length c.args.self.now.texts.items = omega arith in
    kept_code c.args.self.now.places c.insert.new.self c.args.self.now.texts.items c.push.new.self.items c.args.text.now c.in_ok-copy.field-0 c.as_str-characters.result.now c.len-place.result
    c.requires.kept c.as_str-characters.ensures.bytes c.as_str-characters.ensures.characters (sym c.get.ensures.value ∙ sym c.copied.ensures ∙ c.in_default.is)
    place c.in_ok-copy.ensures c.in_ok-push.ensures.items
    (hash_map_updates_str c.as_str-characters.result.now c.args.self.now.places c.insert.new.self _ c.in_ok-insert.ensures.updates)
