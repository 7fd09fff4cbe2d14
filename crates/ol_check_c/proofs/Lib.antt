mod Surely
