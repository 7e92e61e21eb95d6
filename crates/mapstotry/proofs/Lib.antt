-- The table of maps to try, computed: for each kind of example a test and the law that the example holds where the test passes; then the tests of the whole table.
pub mod Tests
pub mod Runs
pub mod Counting
pub mod Readings
pub mod Nearness
pub mod Linking
pub mod Numbers
pub mod Checks
pub mod MapsToTry
