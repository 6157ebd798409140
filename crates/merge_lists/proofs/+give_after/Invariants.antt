-- The measure of `merge_lists::give_after`: how many pages of the second list are left.
use Rattle.merge_lists.proofs.+give_after.Given as goal

abbrev pub decreases-give_after : goal.decreases-give_after
decreases-give_after l = l.m
