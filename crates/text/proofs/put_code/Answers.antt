use Rattle.text_lines.specs.Text.{listing_of, refused_text, signed_decimal, dash, decimal, places, places_in, newline}
use Rattle.text.proofs.put_code.Goals as goal

pub returns-in-Place : goal.returns-in-Place
unfolding listing_of refused_text signed_decimal dash decimal places places_in newline
returns-in-Place c = rw c.in-Place.is c.put.ensures

pub returns-in-Version : goal.returns-in-Version
unfolding listing_of refused_text signed_decimal dash decimal places places_in newline
returns-in-Version c = rw c.in-Version.is c.put-in-Version.ensures

pub returns-in-Rules : goal.returns-in-Rules
unfolding listing_of refused_text signed_decimal dash decimal places places_in newline
returns-in-Rules c = rw c.in-Rules.is c.put-in-Rules.ensures
